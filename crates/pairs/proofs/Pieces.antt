-- The first two pieces of a text. Assumes nothing.
use Rattle.std.proofs.Common.{◌≡◌, List, ℕ, Bool, false, [], ◌∷◌, Some, None, Option, Bor, refl}
use Rattle.std.specs.Fn.{CalledAt}
use Rattle.std.specs.Iterator.Runs.{Run, EachRunFrom}
use Rattle.std.specs.List.{slice_split}
use Rattle.std.specs.Option.{option_map}
use Rattle.std.specs.declared.slice.Split.{Split}
use Rattle.std.specs.Slice.Iter.{split_steps, split_rest, split_done, split_callee}
use Rattle.std.proofs.lemmas.Iterator.{YieldsList}
use Rattle.std.proofs.lemmas.Iterator.Splits.{YieldsList-from_slice_split}
use Rattle.pairs.specs.Texts.{two_of}
use denote.Param.Members.{Mut}

two_given : {S : Type 0} {steps : S → Option (Bor (List ℕ)) → S → Type 0} (s t u : S) (all : List (List ℕ)) (x : Bor (List ℕ)) (r : Option (Bor (List ℕ))) → YieldsList steps (λ y. y.now) s all → steps s (Some x) t → steps t r u → option_map (λ y. (x.now, y.now)) r ≡ two_of all
two_given s t u [] x r road a b = absurd (road.runs x t a)
two_given s t u (p ∷ []) x None road a b = refl
two_given s t u (p ∷ []) x (Some y) road a b = absurd ((road.runs.1 x t a).1 y u b)
two_given s t u (p ∷ q ∷ ts) x None road a b = absurd ((road.runs.1 x t a).1.0 u b)
two_given s t u (p ∷ q ∷ ts) x (Some y) road a b = let e = (road.runs.1 x t a).0 in let f = ((road.runs.1 x t a).1.1 y u b).0 in cc

-- what two calls of `next` give of a text that is split at a test, where the first gives x
pub two_of_split : {F : Type 0} {g : Mut F (Bor ℕ × Unit {0}) Bool} (p : ℕ → Bool) (s t u : Split ℕ F) (xs : List ℕ) (x : Bor (List ℕ)) (r : Option (Bor (List ℕ))) {P : Run (split_steps g) → Type 0} → EachRunFrom (split_steps g) s P → split_rest s ≡ xs → split_done s ≡ false → ((y : ℕ) (b : Bool) (q : F) → CalledAt g (split_callee s) y b q → (q ≡ split_callee s) × (b ≡ p y)) → split_steps g s (Some x) t → split_steps g t r u → option_map (λ y. (x.now, y.now)) r ≡ two_of (slice_split p xs)
two_of_split {g = g} p s t u xs x r runs rest done test a b = two_given s t u (slice_split p xs) x r (YieldsList-from_slice_split g p xs rest done refl test) a b
