-- The value of digits, one after another. Assumes nothing.
use Rattle.std.proofs.Common.{◌≡◌, ℕ, ◌+◌, ◌-◌, ◌*◌, ◌<◌, ◌≤◌, true, List, [], ◌∷◌, length, get_or, drop, refl, arith}
use Rattle.std.proofs.lemmas.List.{at_drop_more}
use Rattle.std.proofs.lemmas.Bool.{and_parts}
use Rattle.std.proofs.lemmas.Bool.Decides.{nat_tests}
use Rattle.version.specs.Grammar.{digit, every}
use Rattle.version.specs.Reader.{value_on, numeral}

pub digit-within : (b : ℕ) → digit b ≡ true → (48 ≤ b) × (b ≤ 57)
digit-within b e = (grind (arith, nat_tests), grind (arith, nat_tests))

pub value_more : (n : ℕ) (xs : List ℕ) (i : ℕ) → i < length xs → value_on n (drop i xs) ≡ value_on (n * 10 + (get_or xs i 0 - 48)) (drop (i + 1) xs)
value_more n xs i h = at_drop_more (value_on n) xs i 0 h

-- a value never falls
pub value_grows : (n : ℕ) (xs : List ℕ) → n ≤ value_on n xs
value_grows n [] = omega arith
value_grows n (b ∷ bs) = omega (arith, value_grows (n * 10 + (b - 48)) bs)

pub numeral-digits : (t : List ℕ) → numeral t ≡ true → every digit t ≡ true
numeral-digits [] e = refl
numeral-digits (b ∷ bs) e = (and_parts (every digit (b ∷ bs)) _ e).0
