use Rattle.std.proofs.Common.{◌∙◌, ◌-◌, ◌≤◌, length, take, drop, Err, sym, ap, arith}
use Rattle.std.proofs.lemmas.Result.{err_from_is_err_and}
use Rattle.std.proofs.lemmas.Option.{MatchOption-at_some}
use Rattle.arith.specs.Answers.{cut_in, read_in, tallied}
use Rattle.arith.proofs.Steps.{turns_start, turns_next, turns_refused}
use Rattle.arith.proofs.+read_value.Goals as goal

pub loop-rest-init : goal.loop-rest-init
loop-rest-init t c =
    let found = c.in_ok-name.ensures.ok_part in
    turns_start c.args.depth c.operator_of-op.result c.in_ok-name.name.now c.in_ok-name.rest.now c.args.text.now (omega arith) (omega arith) (omega arith) (sym c.operator_of-op.ensures)
    (sym c.cut_at_separator.ensures.cut ∙ ap cut_in found)
    (MatchOption-at_some (Unit {0}) (λ p. length p.1.now ≤ length (take (length c.args.text.now - 1) (drop 1 c.args.text.now))) _ found c.cut_at_separator.ensures.within)

pub returns-in_err-so_far-in-len1-up-clause-value : goal.returns-in_err-so_far-in-len1-up-clause-value
returns-in_err-so_far-in-len1-up-clause-value t c =
    let p = err_from_is_err_and c.from_residual-in_err-so_far-in-len1-up.result c.from_residual-in_err-so_far-in-len1-up.ensures.1 in
    let refused = turns_refused c.args.depth c.operator_of-op.result (tallied c.loop-rest.so_far) c.loop-rest.rest.now c.args.text.now c.loop-rest.invariant (omega arith) (sym c.if-is_separator.ensures) _ c.in_ok-argument-in-len1-up.argument.rest.now _
    (sym c.in_ok-argument-in-len1-up.ensures.value) (sym c.in_err-so_far-in-len1-up.ensures.fold) in
    ap read_in (p.1 ∙ ap Err p.2) ∙ sym refused

pub loop-rest-preserved : goal.loop-rest-preserved
loop-rest-preserved t c =
    turns_next c.args.depth c.operator_of-op.result (tallied c.loop-rest.so_far) c.loop-rest.rest.now c.args.text.now c.loop-rest.invariant (omega arith) (sym c.if-is_separator.ensures) _ c.in_ok-argument-in-len1-up.argument.rest.now _
    (sym c.in_ok-argument-in-len1-up.ensures.value) (sym c.in_ok-so_far-in-len1-up.ensures.fold) c.in_ok-so_far-in-len1-up.ensures.count c.in_ok-argument-in-len1-up.ensures.within
