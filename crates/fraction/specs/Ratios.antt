-- Rational numbers as ratios of an integer to a positive number, in any terms. Assumes nothing.
use Rattle.std.specs.Prelude.{◌≡◌, ℕ, ◌*◌, ◌<◌, ℤ, pos, negsuc, ◌+ℤ◌, ◌*ℤ◌, neg_ℤ, unsigned_abs}
use Rattle.std.specs.Int.{◌∣◌}

pub record Ratio : Type 0 where
  pub numer : ℤ
  pub denom : ℕ

abbrev pub whole : ℕ → Ratio
whole n = record { numer = pos n; denom = 1 }

abbrev pub sum : Ratio → Ratio → Ratio
sum p q = record { numer = p.numer *ℤ pos q.denom +ℤ q.numer *ℤ pos p.denom; denom = p.denom * q.denom }

abbrev pub product : Ratio → Ratio → Ratio
product p q = record { numer = p.numer *ℤ q.numer; denom = p.denom * q.denom }

abbrev pub negative : Ratio → Ratio
negative p = record { numer = neg_ℤ p.numer; denom = p.denom }

abbrev pub difference : Ratio → Ratio → Ratio
difference p q = sum p (negative q)

-- a number of the size n with the sign of z
abbrev pub with_sign : ℤ → ℕ → ℤ
with_sign (pos _) n = pos n
with_sign (negsuc _) n = neg_ℤ (pos n)

-- one over a number that is not zero: its sign stays above
abbrev pub inverse : Ratio → Ratio
inverse p = record { numer = with_sign p.numer p.denom; denom = unsigned_abs p.numer }

abbrev pub quotient : Ratio → Ratio → Ratio
quotient p q = product p (inverse q)

-- two ratios are one number
abbrev pub Same : Ratio → Ratio → Type 0
Same p q = p.numer *ℤ pos q.denom ≡ q.numer *ℤ pos p.denom

-- numerator and denominator have no common divisor but 1
pub record Reduced (p : Ratio) : Type 0 where
  pub positive : 0 < p.denom
  pub apart : (k : ℕ) → k ∣ unsigned_abs p.numer → k ∣ p.denom → k ≡ 1
