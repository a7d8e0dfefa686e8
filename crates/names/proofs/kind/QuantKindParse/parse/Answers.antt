use Rattle.std.proofs.Common.{◌≡◌, ◌+◌, take, drop, position, sym, ap, ◌∙◌, rules, tests}
use Rattle.std.proofs.lemmas.Iterator.{YieldsList-from_slice}
use Rattle.std.proofs.lemmas.Iterator.Search.{position_from_yields_List}
use Rattle.std.proofs.lemmas.List.{take_rest}
use Rattle.ids.specs.Numbers.{number_up_to}
use Rattle.words.specs.declared.joined.Bars.TheVariants.{Both}
use Rattle.words.specs.Joined.{joined_text, front_bars}
use Rattle.names.specs.QuantKinds.{bang, quant_kind, if_number, by_number}
use Rattle.names.proofs.Pieces.{told_none, told_barred, told_last, told_inner}
use Rattle.names.proofs.kind.QuantKindParse.parse.Goals as goal
use Rattle.names.proofs.kind.QuantKindParse.parse.Goals.{After-position, After-position-2, After-parse_number, in-Some-position, in-None-2}

first_bang : (c : After-position) → position bang c.args.name.span.now ≡ c.position.result
first_bang c = sym (position_from_yields_List bang _ _ c.position.result c.position.ensures.ran (YieldsList-from_slice c.args.name.span.now cc) (λ x b q k. search (rules, tests)))

second_bang : (c : After-position-2) → position bang (drop (c.in-Some.first + 1) c.args.name.span.now) ≡ c.position-2.result
second_bang c = sym (position_from_yields_List bang _ _ c.position-2.result c.position-2.ensures.ran (YieldsList-from_slice (drop (c.in-Some.first + 1) c.args.name.span.now) (let e = take_rest c.args.name.span.now (c.in-Some.first + 1) in cc)) (λ x b q k. search (rules, tests)))

pub returns-in_default : goal.returns-in_default
returns-in_default c = sym (told_none c.args.name.span.now c.args.name.bars (first_bang (goal.at.returns-in_default c).After-position ∙ c.in_default.is))

pub returns-in-None : goal.returns-in-None
returns-in-None c =
    let p = goal.at.returns-in-None c in
    let s = c.args.name.span.now in
    let both : c.args.name.bars ≡ Both = (let e = c.if-eq.ensures in search rules) in
    rw both (sym (told_barred s c.in-Some.first (first_bang p.After-position ∙ c.in-Some.is) (second_bang p.After-position-2 ∙ c.in-None.is)))

-- the name by its pieces, once both are found
told : (c : After-parse_number) → position bang c.args.name.span.now ≡ c.position.result → position bang (drop (c.in-Some.first + 1) c.args.name.span.now) ≡ c.position-2.result → quant_kind (joined_text c.args.name.bars c.args.name.span.now) ≡ if_number (joined_text c.args.name.bars c.args.name.span.now) (joined_text (front_bars c.args.name.bars) (take c.in-Some.first c.args.name.span.now)) c.parse_number.result
told c one two =
    let s = c.args.name.span.now in
    let b = c.args.name.bars in
    let i = c.in-Some.first in
    let first = one ∙ c.in-Some.is in
    let read = ap (if_number (joined_text b s) (joined_text (front_bars b) (take i s))) (sym c.parse_number.ensures) in
    let rest = take_rest s (i + 1) in
    elim c.match-position-2.branch [
      | in-Some-position w ↦ told_inner s i first b w.in-Some-position.second (two ∙ w.in-Some-position.is) ∙ ap (λ q. if_number (joined_text b s) (joined_text (front_bars b) (take i s)) (number_up_to 18446744073709551615 q)) (ap (take w.in-Some-position.second) (sym rest) ∙ sym (ap (λ n. n.now) w.number-is)) ∙ read
      | in-None-2 w ↦ told_last s i first b (λ both. (let e = w.if-eq.ensures in search rules)) (two ∙ w.in-None.is) ∙ ap (λ q. if_number (joined_text b s) (joined_text (front_bars b) (take i s)) (number_up_to 18446744073709551615 q)) (sym rest ∙ sym (ap (λ n. n.now) w.number-is)) ∙ read
    ]

pub returns-in-Err : goal.returns-in-Err
returns-in-Err c =
    let p = goal.at.returns-in-Err c in
    let s = c.args.name.span.now in
    let b = c.args.name.bars in
    sym (told p.After-parse_number (first_bang p.After-position) (second_bang p.After-position-2) ∙ ap (if_number (joined_text b s) (joined_text (front_bars b) (take c.in-Some.first s))) c.in-Err.is)

pub returns-in-Ok : goal.returns-in-Ok
returns-in-Ok c =
    let p = goal.at.returns-in-Ok c in
    let s = c.args.name.span.now in
    let b = c.args.name.bars in
    let a = take c.in-Some.first s in
    ap (λ f. by_number (joined_text f a) c.in-Ok.id) c.without_last.ensures
    ∙ sym (told p.After-parse_number (first_bang p.After-position) (second_bang p.After-position-2) ∙ ap (if_number (joined_text b s) (joined_text (front_bars b) a)) c.in-Ok.is)
