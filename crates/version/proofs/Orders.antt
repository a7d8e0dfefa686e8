-- Numbers and texts in order, and what follows where no difference is found. Assumes nothing.
use Rattle.std.proofs.Common.{◌≡◌, ℕ, ◌<◌, List, [], ◌∷◌, Ordering, Less, Equal, Greater, refl, sym, arith}
use Rattle.std.specs.Ordering.{ordering_then}
use Rattle.std.proofs.lemmas.Bool.Decides.{nat_tests}
use Rattle.std.proofs.lemmas.Cmp.{ranked}
use Rattle.version.specs.Precedence.{by_value, by_first}

pub value_less : (m n : ℕ) → m < n → by_value m n ≡ Less
value_less m n h = grind (arith, nat_tests)

pub value_same : (m n : ℕ) → m ≡ n → by_value m n ≡ Equal
value_same m n h = grind (arith, nat_tests)

pub value_greater : (m n : ℕ) → n < m → by_value m n ≡ Greater
value_greater m n h = grind (arith, nat_tests)

pub then_equal : (o p : Ordering) → ordering_then o p ≡ Equal → (o ≡ Equal) × (p ≡ Equal)
then_equal Less p e = absurd (cc)
then_equal Equal p e = (refl, e)
then_equal Greater p e = absurd (cc)

pub same_values : (m n : ℕ) → by_value m n ≡ Equal → m ≡ n
same_values m n h = ranked m n Equal (sym h)

pub same_lists : {X : Type 0} (by : X → X → Ordering) → ((x y : X) → by x y ≡ Equal → x ≡ y) → (xs ys : List X) → by_first by xs ys ≡ Equal → xs ≡ ys
same_lists by same [] [] h = refl
same_lists by same [] (y ∷ ys) h = cc
same_lists by same (x ∷ xs) [] h = cc
same_lists by same (x ∷ xs) (y ∷ ys) h =
    let p = then_equal (by x y) (by_first by xs ys) h in
    λ i. same x y p.0 i ∷ same_lists by same xs ys p.1 i
