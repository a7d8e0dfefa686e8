use Rattle.std.proofs.Common.{◌≡◌, ◌∷◌, take, length, sym, ap, ◌∙◌, arith, rules, tests}
use Rattle.std.proofs.lemmas.Iterator.{YieldsList-from_slice}
use Rattle.std.proofs.lemmas.Iterator.Search.{position_from_yields_List}
use Rattle.words.specs.Words.{separates, ahead, first_of, rest_of}
use Rattle.words.proofs.Cut.{first_cut}
use Rattle.words.proofs.cursor.next.WordsIterator.next.Goals as goal
use Rattle.words.proofs.cursor.next.WordsIterator.next.Goals.{After-get-self}

-- the first word and those behind it
split : (c : After-get-self) → ahead c.args.self.now.left ≡ take c.unwrap_or-end.result c.in_ok-line.line.now ∷ ahead c.get-self.result
split c =
    let xs = c.in_ok-line.line.now in
    let p = position_from_yields_List separates _ _ c.position.result c.position.ensures.ran (YieldsList-from_slice xs cc) (λ x b q k. search (rules, tests)) in
    ap ahead c.in_ok-line.was ∙ first_cut xs c.position.result c.unwrap_or-end.result c.get-self.result p c.unwrap_or-end.ensures c.get-self.ensures.lookup

pub returns-clause-steps : goal.returns-clause-steps
returns-clause-steps c =
    let e = split (goal.at.returns-clause-steps c).After-get-self in
    record { word = sym (ap first_of e); rest = sym (ap rest_of e); number = search rules }

pub returns-clause-goes : goal.returns-clause-goes
returns-clause-goes c =
    let e = ap length (split (goal.at.returns-clause-goes c).After-get-self) in
    record { on = λ _. (tt, tt, omega arith); keeps = tt; rests = λ _. tt }
