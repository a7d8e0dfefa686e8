use Rattle.std.proofs.Common.{◌+ℤ◌, arith, rules, SFits}
use mir.Syntax.{w128}
use Rattle.std.proofs.lemmas.Int.{to_z-of_z, ints}
use Rattle.fraction.proofs.terms.Fraction.plus.Goals as goal

pub overflow_add-left : goal.overflow_add-left
overflow_add-left c = omega (arith, ints)

pub returns : goal.returns
returns c =
    let fits : SFits w128 (c.product-left.result +ℤ c.product-right.result) = omega (arith, ints) in
    search (rules, to_z-of_z)
