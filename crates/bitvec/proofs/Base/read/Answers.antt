use Rattle.std.proofs.Common.{◌≡◌, Some, None, rules, sym, ◌∙◌}
use Rattle.bitvec.proofs.Digits.{digits_bad, reading_more}
use Rattle.bitvec.proofs.Base.read.Goals as goal

pub returns-in_err-digit : goal.returns-in_err-digit
returns-in_err-digit c =
    let none : c.digit.result ≡ None = search rules in
    let bad = digits_bad _ _ _ _ c.loop-b.invariant c.loop-b-test.true (sym c.digit.ensures ∙ none) in
    search (rules, bad)

pub loop-b-preserved : goal.loop-b-preserved
loop-b-preserved c =
    let some : c.digit.result ≡ Some c.in_ok-digit.digit = search rules in
    reading_more _ _ _ _ _ _ c.loop-b.invariant c.loop-b-test.true (sym c.digit.ensures ∙ some) cc
