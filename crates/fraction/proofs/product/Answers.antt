use Rattle.std.proofs.Common.{◌-◌, ◌^◌, ◌<◌, ◌≤◌, ℤ, ◌*ℤ◌, nat_abs, refl, mul-le-mul, arith, SFits}
use mir.Syntax.{w128}
use Rattle.std.proofs.lemmas.Int.{to_z-of_z, unsigned_abs-mul, fits_signed_from_abs}
use Rattle.fraction.proofs.product.Goals as goal

product-size : (a b : ℤ) → nat_abs a < 2 ^ 63 → nat_abs b < 2 ^ 63 → nat_abs (a *ℤ b) < 2 ^ 126
product-size a b p q =
    let p' : nat_abs a ≤ 2 ^ 63 - 1 = omega arith in
    let q' : nat_abs b ≤ 2 ^ 63 - 1 = omega arith in
    omega (arith, unsigned_abs-mul a b, mul-le-mul p' q')

pub returns : goal.returns
returns c =
    let a = c.args.a in
    let b = c.args.b in
    let left : SFits w128 a = c.ranges.a in
    let right : SFits w128 b = c.ranges.b in
    let small = product-size a b c.requires.0 c.requires.1 in
    let fits : SFits w128 (a *ℤ b) = fits_signed_from_abs w128 (a *ℤ b) (omega arith) in
    simp to_z-of_z (record { value = refl; size = small })
