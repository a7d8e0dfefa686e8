-- Fractions in lowest terms that fit, and their arithmetic. Assumes nothing.
use Rattle.std.specs.Prelude.{ℕ, ◌/◌, cond, ℤ, Ok, Err, Result, ◌==◌, unsigned_abs}
use Rattle.fraction.specs.declared.FractionFault.{FractionFault}
use Rattle.fraction.specs.declared.FractionFault.TheVariants.{ZeroDivisor, TooLarge}
use Rattle.fraction.specs.declared.terms.Fraction.{Fraction}
use Rattle.fraction.specs.Divisors.{gcd}
use Rattle.fraction.specs.Bounds.{fits}
use Rattle.fraction.specs.Ratios.{Ratio, sum, product, difference, quotient, with_sign}

-- the number that a fraction of the code is
abbrev pub ratio : Fraction → Ratio
ratio f = record { numer = f.num; denom = f.den }

abbrev pub told : Result Fraction FractionFault → Result Ratio FractionFault
told (Ok f) = Ok (ratio f)
told (Err e) = Err e

-- the ratio of the size n to d, with the sign of z, if it fits
abbrev pub bounded : ℤ → ℕ → ℕ → Result Ratio FractionFault
bounded z n d = cond (fits n d) (Ok (record { numer = with_sign z n; denom = d })) (Err TooLarge)

-- in lowest terms
abbrev pub reduced : ℤ → ℕ → Result Ratio FractionFault
reduced z d = bounded z (unsigned_abs z / gcd (unsigned_abs z) d) (d / gcd (unsigned_abs z) d)

abbrev pub lowest : Ratio → Result Ratio FractionFault
lowest p = reduced p.numer p.denom

abbrev pub add : Ratio → Ratio → Result Ratio FractionFault
add p q = lowest (sum p q)

abbrev pub subtract : Ratio → Ratio → Result Ratio FractionFault
subtract p q = lowest (difference p q)

abbrev pub multiply : Ratio → Ratio → Result Ratio FractionFault
multiply p q = lowest (product p q)

abbrev pub divide : Ratio → Ratio → Result Ratio FractionFault
divide p q = cond (unsigned_abs q.numer == 0) (Err ZeroDivisor) (lowest (quotient p q))

-- the number that a refusal goes by
abbrev pub fault_number : FractionFault → ℕ
fault_number ZeroDivisor = 11
fault_number TooLarge = 12
