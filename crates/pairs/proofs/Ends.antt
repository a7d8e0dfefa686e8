-- Signs at the ends of a text, as the library's tests of slices tell them. Assumes nothing.
use Rattle.std.proofs.Common.{◌≡◌, ℕ, ◌-◌, Bool, cond, eqb, List, [], ◌∷◌, ◌++◌, length, take, drop, Some, None, refl, arith}
use native.Mathlib.Numerals.{unary_clauses}
use Rattle.std.specs.Cmp.Lexicographic.{pointwise}
use Rattle.std.specs.List.{ends_with}
use Rattle.std.specs.Option.{option_map}
use Rattle.pairs.specs.Texts.{end_off, closes}

pub end_push : (s : ℕ) (xs : List ℕ) (b : ℕ) → end_off s (xs ++ b ∷ []) ≡ cond (eqb b s) (Some xs) None
end_push s [] b = refl
end_push s (x ∷ []) b = grind arith
end_push s (x ∷ y ∷ xs) b = grind (arith, end_push s (y ∷ xs) b)

onto-cond : (t : Bool) (b : ℕ) (xs : List ℕ) → option_map (λ l. b ∷ l) (cond t (Some xs) None) ≡ cond t (Some (b ∷ xs)) None
onto-cond t b xs = grind arith

-- as `strip_suffix` tells it
pub end_stripped : (s : ℕ) (t : List ℕ) → end_off s t ≡ cond (pointwise eqb (drop (length t - 1) t) (s ∷ [])) (Some (take (length t - 1) t)) None
end_stripped s [] = refl
end_stripped s (x ∷ []) = grind arith
end_stripped s (x ∷ y ∷ ys) = let h = end_stripped s (y ∷ ys) in simp unary_clauses (grind (arith, simp unary_clauses at h, onto-cond))

turned : (x : ℕ) (t : List ℕ) → pointwise eqb (x ∷ []) t ≡ pointwise eqb t (x ∷ [])
turned x [] = refl
turned x (y ∷ []) = grind arith
turned x (y ∷ z ∷ zs) = grind arith

pub closes_by : (t : List ℕ) → closes t ≡ ends_with eqb t (41 ∷ [])
closes_by t = grind (arith, end_stripped 41 t, turned 41 (drop (length t - 1) t))
