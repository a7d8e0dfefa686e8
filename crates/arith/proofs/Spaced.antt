-- A text with its separators as spaces, byte by byte. Assumes nothing.
use Rattle.std.proofs.Common.{◌≡◌, ℕ, ◌-◌, ◌<◌, List, [], ◌∷◌, length, get_or, take, drop, sym, refl, ap, arith}
use Rattle.std.proofs.lemmas.List.{take_rest}
use Rattle.std.proofs.lemmas.Bool.Decides.{nat_tests}
use Rattle.words.specs.Joined.{as_space, spaces}
use Rattle.arith.specs.Values.{digit, operator_of, sign_of}

-- a text that has a front, as a pattern of the code takes it apart
pub front : (w : List ℕ) → 0 < length w → spaces w ≡ as_space (get_or w 0 0) ∷ spaces (take (length w - 1) (drop 1 w))
front [] h = absurd (omega arith)
front (b ∷ bs) h = ap (λ l. as_space b ∷ spaces l) (sym (take_rest (b ∷ bs) 1))

pub space_digit : (b : ℕ) → digit (as_space b) ≡ digit b
space_digit b = grind (arith, nat_tests)

pub space_not_close : (b : ℕ) → (b ≡ 41 → ⊥) → as_space b ≡ 41 → ⊥
space_not_close b n e = grind (arith, nat_tests)

space_sign : (b : ℕ) → sign_of (as_space b) ≡ sign_of b
space_sign b = grind (arith, nat_tests)

pub space_operator : (w : List ℕ) → operator_of (spaces w) ≡ operator_of w
space_operator [] = refl
space_operator (b ∷ []) = space_sign b
space_operator (b ∷ c ∷ bs) = refl
