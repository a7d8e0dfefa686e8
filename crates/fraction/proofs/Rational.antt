-- Ratios that are one number, and the arithmetic of such. Assumes nothing.
use Rattle.std.proofs.Common.{◌≡◌, ℕ, zero, suc, ◌+◌, ◌*◌, ◌<◌, ℤ, pos, negsuc, ◌*ℤ◌, nat_abs, sym, ap, ◌∙◌, mul-pos, arith}
use native.Mathlib.Nat.{eq_of_mul-eq-mul_right}
use borrow.Author.Differences.{up, down, same_in, sum_is_lem, neg_is, product_is}
use Rattle.fraction.specs.Ratios.{Ratio, Same, sum, product, negative, difference, inverse, quotient}

-- an integer times a number, by its two parts
times-up : (z : ℤ) (d : ℕ) → up (z *ℤ pos d) ≡ up z * d
times-up z d = omega (arith, product_is z (pos d))

times_down : (z : ℤ) (d : ℕ) → down (z *ℤ pos d) ≡ down z * d
times_down z d = omega (arith, product_is z (pos d))

pub same_up : (p q : Ratio) → Same p q → up p.numer * q.denom ≡ up q.numer * p.denom
same_up p q e = sym (times-up p.numer q.denom) ∙ ap up e ∙ times-up q.numer p.denom

pub same_down : (p q : Ratio) → Same p q → down p.numer * q.denom ≡ down q.numer * p.denom
same_down p q e = sym (times_down p.numer q.denom) ∙ ap down e ∙ times_down q.numer p.denom

-- and back, by one equation
pub same_from : (p q : Ratio) → up p.numer * q.denom + down q.numer * p.denom ≡ up q.numer * p.denom + down p.numer * q.denom → Same p q
same_from p q e =
    same_in (p.numer *ℤ pos q.denom) (q.numer *ℤ pos p.denom) (omega (arith, times-up p.numer q.denom, times-up q.numer p.denom, times_down p.numer q.denom, times_down q.numer p.denom))

same_parts : (p q : Ratio) → up p.numer * q.denom ≡ up q.numer * p.denom → down p.numer * q.denom ≡ down q.numer * p.denom → Same p q
same_parts p q u d = same_from p q (omega arith)

-- a * c = b * d and b * e = f * c, so a * e = f * d
across : (a b c d e f : ℕ) → 0 < c → a * c ≡ b * d → b * e ≡ f * c → a * e ≡ f * d
across a b c d e f h p q =
    eq_of_mul-eq-mul_right c h (a * e) (f * d) (omega (arith, ap (λ n. n * e) p, ap (λ n. n * d) q))

pub same_trans : (p q r : Ratio) → 0 < q.denom → Same p q → Same q r → Same p r
same_trans p q r h e f =
    same_parts p r (across (up p.numer) (up q.numer) q.denom p.denom r.denom (up r.numer) h (same_up p q e) (same_up q r f))
    (across (down p.numer) (down q.numer) q.denom p.denom r.denom (down r.numer) h (same_down p q e) (same_down q r f))

pub negative-same : (p q : Ratio) → Same p q → Same (negative p) (negative q)
negative-same p q e =
    let a = neg_is p.numer in
    let b = neg_is q.numer in
    same_parts (negative p) (negative q) (ap (λ n. n * q.denom) a.0 ∙ same_down p q e ∙ ap (λ n. n * p.denom) (sym b.0))
    (ap (λ n. n * q.denom) a.1 ∙ same_up p q e ∙ ap (λ n. n * p.denom) (sym b.1))

-- u and v are the parts of a numerator over d, x and y those of the one that is the same over e
sum-parts : (u₁ v₁ d₁ u₂ v₂ d₂ x₁ y₁ e₁ x₂ y₂ e₂ u v x y : ℕ)
    → u₁ * e₁ ≡ x₁ * d₁ → v₁ * e₁ ≡ y₁ * d₁ → u₂ * e₂ ≡ x₂ * d₂ → v₂ * e₂ ≡ y₂ * d₂
    → u + v₁ * d₂ + v₂ * d₁ ≡ v + u₁ * d₂ + u₂ * d₁ → x + y₁ * e₂ + y₂ * e₁ ≡ y + x₁ * e₂ + x₂ * e₁
    → u * (e₁ * e₂) + y * (d₁ * d₂) ≡ x * (d₁ * d₂) + v * (e₁ * e₂)
sum-parts u₁ v₁ d₁ u₂ v₂ d₂ x₁ y₁ e₁ x₂ y₂ e₂ u v x y p q r s f g = omega (
  arith,
  ap (λ n. n * (d₂ * e₂)) p,
  ap (λ n. n * (d₂ * e₂)) q,
  ap (λ n. n * (d₁ * e₁)) r,
  ap (λ n. n * (d₁ * e₁)) s,
  ap (λ n. n * (e₁ * e₂)) f,
  ap (λ n. n * (d₁ * d₂)) g,
)

pub sum_same : (p q p' q' : Ratio) → Same p p' → Same q q' → Same (sum p q) (sum p' q')
sum_same p q p' q' e f =
    same_from (sum p q) (sum p' q') (sum-parts (up p.numer) (down p.numer) p.denom (up q.numer) (down q.numer) q.denom
    (up p'.numer) (down p'.numer) p'.denom (up q'.numer) (down q'.numer) q'.denom
    (up (sum p q).numer) (down (sum p q).numer) (up (sum p' q').numer) (down (sum p' q').numer)
    (same_up p p' e) (same_down p p' e) (same_up q q' f) (same_down q q' f)
    (made p q) (made p' q'))
  where
    made : (p q : Ratio) → up (sum p q).numer + down p.numer * q.denom + down q.numer * p.denom ≡ down (sum p q).numer + up p.numer * q.denom + up q.numer * p.denom
    made p q = omega (
      arith,
      sum_is_lem (p.numer *ℤ pos q.denom) (q.numer *ℤ pos p.denom),
      times-up p.numer q.denom,
      times_down p.numer q.denom,
      times-up q.numer p.denom,
      times_down q.numer p.denom,
    )

pub difference-same : (p q p' q' : Ratio) → Same p p' → Same q q' → Same (difference p q) (difference p' q')
difference-same p q p' q' e f = sum_same p (negative q) p' (negative q') e (negative-same q q' f)

-- a product's parts: two of each kind
mixed : (a b c d x y z w : ℕ) (m n m' n' : ℕ) → a * m ≡ x * n → b * m' ≡ y * n' → c * m ≡ z * n → d * m' ≡ w * n' → (a * b + c * d) * (m * m') ≡ (x * y + z * w) * (n * n')
mixed a b c d x y z w m n m' n' p q r s =
    let e : (a * m) * (b * m') ≡ (x * n) * (y * n') = λ i. p i * q i in
    let f : (c * m) * (d * m') ≡ (z * n) * (w * n') = λ i. r i * s i in
    omega (arith, e, f)

pub product-same : (p q p' q' : Ratio) → Same p p' → Same q q' → Same (product p q) (product p' q')
product-same p q p' q' e f =
    let a = product_is p.numer q.numer in
    let b = product_is p'.numer q'.numer in
    same_parts (product p q) (product p' q')
    (ap (λ n. n * (p'.denom * q'.denom)) a.0
    ∙ mixed (up p.numer) (up q.numer) (down p.numer) (down q.numer) (up p'.numer) (up q'.numer) (down p'.numer) (down q'.numer) p'.denom p.denom q'.denom q.denom (same_up p p' e) (same_up q q' f) (same_down p p' e) (same_down q q' f)
    ∙ ap (λ n. n * (p.denom * q.denom)) (sym b.0))
    (ap (λ n. n * (p'.denom * q'.denom)) a.1
    ∙ mixed (up p.numer) (down q.numer) (down p.numer) (up q.numer) (up p'.numer) (down q'.numer) (down p'.numer) (up q'.numer) p'.denom p.denom q'.denom q.denom (same_up p p' e) (same_down q q' f) (same_down p p' e) (same_up q q' f)
    ∙ ap (λ n. n * (p.denom * q.denom)) (sym b.1))

-- ---- one over a number
turned : (d n e m : ℕ) → n * e ≡ m * d → d * m ≡ e * n
turned d n e m h = omega arith

pub inverse-same : (p q : Ratio) → 0 < p.denom → 0 < q.denom → 0 < nat_abs p.numer → 0 < nat_abs q.numer → Same p q → Same (inverse p) (inverse q)
inverse-same p q h k m n e = by_sign p.numer p.denom q.numer q.denom h k m n (same_up p q e) (same_down p q e)
  where
    by_sign : (a : ℤ) (d : ℕ) (b : ℤ) (e : ℕ) → 0 < d → 0 < e → 0 < nat_abs a → 0 < nat_abs b → up a * e ≡ up b * d → down a * e ≡ down b * d → Same (inverse (record { numer = a; denom = d })) (inverse (record { numer = b; denom = e }))
    by_sign (pos a) d (pos b) e h k m n u v = ap pos (turned d a e b u)
    by_sign (pos a) d (negsuc b) e h k m n u v = absurd (omega (arith, mul-pos n h))
    by_sign (negsuc a) d (pos b) e h k m n u v = absurd (omega (arith, mul-pos m k))
    by_sign (negsuc a) d (negsuc b) e h k m n u v =
        let x = neg_is (pos d) in
        let y = neg_is (pos e) in
        same_parts (inverse (record { numer = negsuc a; denom = d })) (inverse (record { numer = negsuc b; denom = e }))
        (ap (λ t. t * suc b) x.0 ∙ omega arith ∙ ap (λ t. t * suc a) (sym y.0))
        (ap (λ t. t * suc b) x.1 ∙ turned d (suc a) e (suc b) v ∙ ap (λ t. t * suc a) (sym y.1))

pub quotient-same : (p q p' q' : Ratio) → 0 < q.denom → 0 < q'.denom → 0 < nat_abs q.numer → 0 < nat_abs q'.numer → Same p p' → Same q q' → Same (quotient p q) (quotient p' q')
quotient-same p q p' q' h k m n e f = product-same p (inverse q) p' (inverse q') e (inverse-same q q' h k m n f)

-- what is the same as a number other than zero is none
pub nonzero-same : (p q : Ratio) → 0 < q.denom → 0 < nat_abs p.numer → Same p q → 0 < nat_abs q.numer
nonzero-same p q h m e = by_sign p.numer p.denom q.numer q.denom h m (same_up p q e) (same_down p q e)
  where
    by_sign : (a : ℤ) (d : ℕ) (b : ℤ) (e : ℕ) → 0 < e → 0 < nat_abs a → up a * e ≡ up b * d → down a * e ≡ down b * d → 0 < nat_abs b
    by_sign (pos a) d (pos zero) e k m u v = omega (arith, mul-pos m k)
    by_sign (pos a) d (pos (suc b)) e k m u v = omega arith
    by_sign (pos a) d (negsuc b) e k m u v = omega arith
    by_sign (negsuc a) d (pos b) e k m u v = absurd (omega (arith, mul-pos m k))
    by_sign (negsuc a) d (negsuc b) e k m u v = omega arith
