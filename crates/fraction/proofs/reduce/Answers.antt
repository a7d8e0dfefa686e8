use Rattle.std.proofs.Common.{◌≡◌, ◌/◌, true, nat_abs, sym, ap, ◌∙◌, subst, rules, SFits, to_z, of_z}
use mir.Syntax.{w64}
use Rattle.std.proofs.lemmas.Int.{to_z-of_z}
use Rattle.fraction.specs.Bounds.{fits}
use Rattle.fraction.proofs.Gcd.{gcd-pos, den_pos, gcd-over}
use Rattle.fraction.proofs.reduce.Goals as goal

pub nonzero_div-above : goal.nonzero_div-above
nonzero_div-above c = search (rules, gcd-pos)

pub nonzero_div-below : goal.nonzero_div-below
nonzero_div-below c = search (rules, gcd-pos)

pub invariant_of-result : goal.invariant_of-result
invariant_of-result c =
    let n = c.unsigned_abs-size.result in
    let d = c.args.den in
    let r = c.with_sign.result in
    let s : SFits w64 r = search rules in
    let size : nat_abs (to_z w64 (of_z w64 r)) ≡ n / c.gcd_of-common.result = ap nat_abs (to_z-of_z w64 r s) ∙ c.with_sign.ensures.size in
    let over = gcd-over n d c.requires in
    record {
      positive = search (rules, den_pos);
      within = subst (λ k. fits k (d / c.gcd_of-common.result) ≡ true) (sym size) (sym c.if-not-within_bounds.ensures);
      coprime = cc;
    }
