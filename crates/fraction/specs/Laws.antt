-- What lowest terms are, in the subject's own words. Assumes nothing.
use Rattle.std.specs.Prelude.{◌≡◌, ℕ, ◌<◌, true, Ok, unsigned_abs}
use Rattle.std.specs.Int.{◌∣◌}
use Rattle.fraction.specs.Divisors.{gcd}
use Rattle.fraction.specs.Bounds.{fits}
use Rattle.fraction.specs.Ratios.{Ratio, Same, Reduced}
use Rattle.fraction.specs.Fractions.{lowest}

abbrev pub GreatestDivisor : Type 0
GreatestDivisor = (a b : ℕ) → (gcd a b ∣ a) × (gcd a b ∣ b) × ((k : ℕ) → k ∣ a → k ∣ b → k ∣ gcd a b)

-- f is the number p in lowest terms, and fits
pub record Lowest (p f : Ratio) : Type 0 where
  pub same : Same f p
  pub low : Reduced f
  pub small : fits (unsigned_abs f.numer) f.denom ≡ true

-- `lowest` gives the same number in lowest terms, and there is no other one
pub record LowestStands : Type 0 where
  pub gives : (p f : Ratio) → 0 < p.denom → lowest p ≡ Ok f → Lowest p f
  pub only : (p f : Ratio) → 0 < p.denom → Lowest p f → lowest p ≡ Ok f
