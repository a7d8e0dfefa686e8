-- Whole numbers in lowest terms. Assumes nothing.
use Rattle.std.proofs.Common.{◌≡◌, ℕ, ◌^◌, nat_le, ◌≤◌, cond, pos, Ok, Err, ap, ◌∙◌, div-one, arith}
use Rattle.std.proofs.lemmas.Bool.{cond-false, and_left, lt-leb}
use Rattle.fraction.specs.declared.FractionFault.TheVariants.{TooLarge}
use Rattle.fraction.specs.Bounds.{fits}
use Rattle.fraction.specs.Ratios.{whole}
use Rattle.fraction.specs.Fractions.{bounded, lowest}

pub lowest-whole : (n : ℕ) → lowest (whole n) ≡ cond (fits n 1) (Ok (whole n)) (Err TooLarge)
lowest-whole n = ap (λ k. bounded (pos n) k 1) (div-one n)

-- one of 64 bits does not fit
pub lowest-large : (n : ℕ) → 2 ^ 63 ≤ n → lowest (whole n) ≡ Err TooLarge
lowest-large n h = lowest-whole n ∙ cond-false (fits n 1) _ _ (and_left (nat_le n 2147483647) _ (lt-leb n 2147483647 (omega arith)))
