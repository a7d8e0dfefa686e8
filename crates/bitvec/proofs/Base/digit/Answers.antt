use Rattle.std.proofs.Common.{◌≡◌, ℕ, ◌<◌, None, Some, Option, arith}
use Rattle.std.proofs.lemmas.Bool.Decides.{nat_tests}
use Rattle.std.specs.Char.{digit_value}
use Rattle.std.specs.Option.{SomeIff}
use Rattle.bitvec.specs.declared.Base.{Base}
use Rattle.bitvec.specs.declared.Base.TheVariants.{Binary, Hexadecimal}
use Rattle.bitvec.specs.BitVecs.{digit_in, radix}
use Rattle.bitvec.proofs.Base.digit.Goals as goal

digit_is : (t : Base) (b : ℕ) (r : Option ℕ) → SomeIff r (digit_value b < radix t) (digit_value b) → r ≡ digit_in t b
digit_is Binary b None h = grind (arith, nat_tests)
digit_is Binary b (Some d) h = grind (arith, nat_tests)
digit_is Hexadecimal b None h = grind (arith, nat_tests)
digit_is Hexadecimal b (Some d) h = grind (arith, nat_tests)

pub returns : goal.returns
returns c = digit_is c.args.self c.args.b c.to_digit.result (rw (c.radix.ensures, c.from.ensures) at c.to_digit.ensures.value)
