use Rattle.std.proofs.Common.{length, drop, Some, sym, ap, ◌∙◌, ⊎_elim, arith}
use Rattle.std.proofs.lemmas.Bool.{cases_lt}
use Rattle.words.specs.Words.{ahead, front_of, size_left}
use Rattle.words.proofs.Cut.{words_count, ahead_more, ahead_end, ahead_size}
use Rattle.words.proofs.Spans.{found, Found, found_long}
use Rattle.words.proofs.cursor.Words.span.Goals as goal
use Rattle.words.proofs.cursor.Words.span.Goals.{In_ok-end}

-- what the place that was found says
here : (c : In_ok-end) → Found c.in_ok-line.line.now c.args.count c.in_ok-end.end
here c = found _ _ _ c.in_ok-end.ensures.value

pub overflow_add-self : goal.overflow_add-self
overflow_add-self c =
    let f = here (goal.at.overflow_add-self c).In_ok-end in
    let e = ap size_left c.in_ok-line.was in
    omega (arith, c.args.self.now.fits, f.many, words_count c.in_ok-line.line.now)

pub invariant_of-self : goal.invariant_of-self
invariant_of-self c =
    let f = here (goal.at.invariant_of-self c).In_ok-end in
    let e = ap size_left c.in_ok-line.was in
    record { fits = omega (arith, c.args.self.now.fits, f.ending.within, found_long c.in_ok-line.line.now c.args.count c.in_ok-end.end f, ahead_size c.in_ok-line.line.now c.in_ok-end.end c.get-self.result c.get-self.ensures.lookup f.ending.within) }

pub returns-clause-words : goal.returns-clause-words
returns-clause-words c =
    let f = here (goal.at.returns-clause-words c).In_ok-end in
    ap Some f.ending.front ∙ sym f.words ∙ sym (ap (front_of c.args.count) (ap ahead c.in_ok-line.was))

pub returns-clause-rest : goal.returns-clause-rest
returns-clause-rest c =
    let f = here (goal.at.returns-clause-rest c).In_ok-end in
    let xs = c.in_ok-line.line.now in
    let e = c.in_ok-end.end in
    let was = ap (drop c.args.count) (ap ahead c.in_ok-line.was) in
    ⊎_elim
    (λ more. ahead_more xs e c.get-self.result c.get-self.ensures.lookup more ∙ f.ending.back more ∙ sym was)
    (λ end. ahead_end xs e c.get-self.result c.get-self.ensures.lookup end ∙ sym (f.ending.last end) ∙ sym was)
    (cases_lt e (length xs))
