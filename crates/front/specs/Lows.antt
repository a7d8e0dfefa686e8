-- The low orders that pass a test, each once. Assumes nothing.
use Rattle.std.specs.Prelude.{is_none, ◌≡◌, ℕ, zero, suc, ◌+◌, ◌<◌, Bool, true, false, cond, ◌&&◌, List, ◌∷◌, length, ◌≢◌, nat_lt, refl}
use Rattle.std.proofs.Common.{arith}
use Rattle.std.proofs.lemmas.Grind.{common_steps}
use Rattle.keyed.specs.Meaning.{listed, NoRepeats}
use Rattle.idents.specs.declared.ident.Ident.{Ident}
use Rattle.idents.specs.Idents.{same_ident}
use Rattle.front.specs.Fronts.{low, low_keys}

-- an order below n is listed where it passes
pub listed-low : (h : ℕ → Bool) (n : ℕ) (i : Ident) → listed same_ident i (low_keys h n) ≡ ((is_none i.namespace && nat_lt i.order n) && h i.order)
unfolding low_keys
listed-low h zero i = grind (arith, common_steps)
listed-low h (suc n) i = grind (arith, common_steps, listed-low h n i)

pub low-apart : (h : ℕ → Bool) (n : ℕ) → NoRepeats same_ident (low_keys h n)
unfolding low_keys
low-apart h zero = tt
low-apart h (suc n) = grind (arith, common_steps, low-apart h n, listed-low h n (low n))

pub low_same : (h k : ℕ → Bool) (n : ℕ) → ((o : ℕ) → o < n → h o ≡ k o) → low_keys h n ≡ low_keys k n
unfolding low_keys
low_same h k zero same = refl
low_same h k (suc n) same = grind (arith, common_steps, low_same h k n (λ o lt. same o (omega arith)), same n)

pub low-none : (h : ℕ → Bool) (n : ℕ) → ((o : ℕ) → o < n → h o ≡ false) → length (low_keys h n) ≡ 0
unfolding low_keys
low-none h zero none = refl
low-none h (suc n) none = grind (arith, common_steps, low-none h n (λ o lt. none o (omega arith)), none n)

pub length-cond : (b : Bool) (n : ℕ) (l : List Ident) → length (cond b (low n ∷ l) l) ≡ length l + cond b 1 0
length-cond b n l = grind (arith, common_steps)

-- one order more that passes
pub low-more : (h k : ℕ → Bool) (n i : ℕ) → i < n → k i ≡ true → ((o : ℕ) → (o ≢ i) → k o ≡ h o) → length (low_keys k n) ≡ length (low_keys h n) + cond (h i) 0 1
unfolding low_keys
low-more h k zero i lt here rest = absurd (omega arith)
low-more h k (suc n) i lt here rest = grind (arith, common_steps, length-cond, low-more h k n i, low_same h k n)
