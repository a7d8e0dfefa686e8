-- Records told behind one another. Assumes nothing.
use Rattle.std.proofs.Common.{◌≡◌, ℕ, zero, suc, List, [], ◌∷◌, ◌++◌, length, set, refl, ap}
use Rattle.words.specs.Laid.{laid}
use Rattle.census.specs.Steps.{laid_from}

module _ {A : Type 0} where
  pub laid_none : (n : ℕ) (m : List A) → laid_from n [] m ≡ m
  laid_none zero m = refl
  laid_none (suc n) [] = refl
  laid_none (suc n) (y ∷ m) = ap (λ l. y ∷ l) (laid_none n m)

  pub laid_one : (n : ℕ) (x : A) (m : List A) → laid_from n (x ∷ []) m ≡ set m n x
  laid_one zero x [] = refl
  laid_one zero x (y ∷ m) = refl
  laid_one (suc n) x [] = refl
  laid_one (suc n) x (y ∷ m) = ap (λ l. y ∷ l) (laid_one n x m)

  pub laid-behind : (xs ys m : List A) → laid_from (length xs) ys (laid xs m) ≡ laid (xs ++ ys) m
  laid-behind [] ys m = refl
  laid-behind (x ∷ xs) ys [] = refl
  laid-behind (x ∷ xs) ys (y ∷ m) = ap (λ l. x ∷ l) (laid-behind xs ys m)
