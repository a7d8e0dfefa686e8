-- Three numbers are read just where they are written. Assumes nothing.
use Rattle.std.proofs.Common.{◌≡◌, ℕ, ◌<◌, true, not, eqb, List, ◌∷◌, ◌++◌, Some, None, Option, unwrap_or, refl, ap, ◌∙◌, arith}
use Rattle.version.specs.Grammar.{digit, decimal, limit}
use Rattle.version.specs.Reader.{then, cut_at, number_of, core_of}
use Rattle.std.proofs.lemmas.Bool.Decides.{nat_tests}
use Rattle.std.proofs.lemmas.List.Folds.{list_all-append}
use Rattle.version.proofs.Numerals.{decimal-numeral, decimal-value, decimal-of}
use Rattle.version.proofs.Joins.{back, clear, cut_back, cut_clear}
use Rattle.version.proofs.Identifiers.{every-weaker, digit-other, decimal-digits}

-- what was read first, where something was read
pub then_some : {A B : Type 0} (o : Option A) (f : A → Option B) (y : B) → then o f ≡ Some y → (x : A) × (o ≡ Some x) × (f x ≡ Some y)
then_some None f y h = absurd (cc)
then_some (Some x) f y h = (x, refl, h)

-- ---- one number
pub number-written : (n : ℕ) → n < limit → number_of (decimal n) ≡ Some n
number-written n h = let good = decimal-numeral n in let same = decimal-value n in grind (arith, nat_tests)

pub number-told : (t : List ℕ) (n : ℕ) → number_of t ≡ Some n → (decimal n ≡ t) × (n < limit)
number-told t n h = let written = decimal-of t in (grind (arith, nat_tests), grind (arith, nat_tests))

-- ---- three of them
abbrev pub core_text : ℕ → ℕ → ℕ → List ℕ
core_text a b c = decimal a ++ (46 ∷ (decimal b ++ (46 ∷ decimal c)))

decimal-clear : (m n : ℕ) → m < 48 → clear m (decimal n) ≡ true
decimal-clear m n l = every-weaker digit (λ b. not (eqb b m)) (digit-other m l) (decimal n) (decimal-digits n)

-- `-` and `+` do not stand in it
pub core_clear : (m a b c : ℕ) → m < 46 → clear m (core_text a b c) ≡ true
core_clear m a b c l =
    let first = decimal-clear m a (omega arith) in
    let second = decimal-clear m b (omega arith) in
    let third = decimal-clear m c (omega arith) in
    simp list_all-append (grind (arith, nat_tests))

pub core_written : (a b c : ℕ) → a < limit → b < limit → c < limit → core_of (core_text a b c) ≡ Some (a, b, c)
core_written a b c p q r =
    let u = decimal b ++ (46 ∷ decimal c) in
    let e = cut_clear 46 (decimal a) (Some u) (decimal-clear 46 a (omega arith)) in
    let f = cut_clear 46 (decimal b) (Some (decimal c)) (decimal-clear 46 b (omega arith)) in
    rw (e, f, number-written a p, number-written b q, number-written c r) refl

same_three : (x y z a b c : ℕ) → ◌≡◌ {A = Option (ℕ × ℕ × ℕ)} (Some (x, y, z)) (Some (a, b, c)) → (x ≡ a) × (y ≡ b) × (z ≡ c)
same_three x y z a b c h =
    let e : ◌≡◌ {A = ℕ × ℕ × ℕ} (x, y, z) (a, b, c) = ap (λ o. unwrap_or o (x, y, z)) h in
    (ap (λ p. p.0) e, ap (λ p. p.1) e, ap (λ p. p.2) e)

pub core_told : (t : List ℕ) (a b c : ℕ) → core_of t ≡ Some (a, b, c) → (core_text a b c ≡ t) × (a < limit) × (b < limit) × (c < limit)
core_told t a b c h =
    let one = then_some (cut_at 46 t).1 _ _ h in
    let u = one.0 in
    let two = then_some (cut_at 46 u).1 _ _ one.2 in
    let w = two.0 in
    let major = then_some (number_of (cut_at 46 t).0) _ _ two.2 in
    let minor = then_some (number_of (cut_at 46 u).0) _ _ major.2 in
    let patch = then_some (number_of w) _ _ minor.2 in
    let same = same_three major.0 minor.0 patch.0 a b c patch.2 in
    let x = number-told (cut_at 46 t).0 a (major.1 ∙ ap Some same.0) in
    let y = number-told (cut_at 46 u).0 b (minor.1 ∙ ap Some same.1) in
    let z = number-told w c (patch.1 ∙ ap Some same.2) in
    let inner : (cut_at 46 u).0 ++ (46 ∷ w) ≡ u = rw (two.1, back) at (cut_back 46 u) in
    let outer : (cut_at 46 t).0 ++ (46 ∷ u) ≡ t = rw (one.1, back) at (cut_back 46 t) in
    (rw (x.0, y.0, z.0, inner) outer, x.1, y.1, z.1)
