-- Lowest terms: the same number, and only one such. Assumes nothing.
use Rattle.std.proofs.Common.{◌≡◌, ℕ, zero, suc, ◌+◌, ◌*◌, ◌/◌, ◌<◌, Bool, true, false, cond, ℤ, pos, negsuc, neg_ℤ, nat_abs, Ok, Err, sym, refl, ap, ◌∙◌, subst, mul-pos, arith}
use Prim.Native.Nat.{◌∣◌}
use native.Mathlib.Nat.{div-mul_cancel, eq_of_mul-eq-mul_right, dvd_antisymm, dvd-mul_left, eq-one_of_dvd-one}
use borrow.Author.Differences.{up, down, neg_is}
use Rattle.std.proofs.lemmas.Bool.{cond-true}
use Rattle.fraction.specs.declared.FractionFault.TheVariants.{TooLarge}
use Rattle.fraction.specs.Divisors.{gcd}
use Rattle.fraction.specs.Bounds.{fits}
use Rattle.fraction.specs.Ratios.{Ratio, Same, Reduced, with_sign}
use Rattle.fraction.specs.Fractions.{bounded, lowest}
use Rattle.fraction.specs.Laws.{Lowest}
use Rattle.fraction.proofs.Gcd.{gcd-is, gcd-pos, den_pos, gcd-over, divides_other}
use Rattle.fraction.proofs.Rational.{same_up, same_down, same_from, same_trans}

pub size_sign : (z : ℤ) (n : ℕ) → nat_abs (with_sign z n) ≡ n
size_sign (pos _) n = refl
size_sign (negsuc _) zero = refl
size_sign (negsuc _) (suc n) = refl

-- ---- what is given
given_out : (z : ℤ) (n d : ℕ) (f : Ratio) (t : Bool) → fits n d ≡ t → cond t (Ok (record { numer = with_sign z n; denom = d })) (Err TooLarge) ≡ Ok f → (fits n d ≡ true) × (record { numer = with_sign z n; denom = d } ≡ f)
given_out z n d f true e h = (e, cc)
given_out z n d f false e h = absurd (cc)

-- (n / g) * d is n * (d / g) if g divides both
swap : (n d g : ℕ) → g ∣ n → g ∣ d → n / g * d ≡ n * (d / g)
swap n d g p q = omega (arith, ap (λ x. n / g * x) (div-mul_cancel g q), ap (λ x. x * (d / g)) (div-mul_cancel g p))

module _ (z : ℤ) (d : ℕ) (h : 0 < d) where
  abbrev size : ℕ
  size = nat_abs z

  abbrev over : Ratio
  over = record { numer = with_sign z (size / gcd size d); denom = d / gcd size d }

  swapped : size / gcd size d * d ≡ size * (d / gcd size d)
  swapped = let v = gcd-is size d in swap size d (gcd size d) v.0 v.1

  over_low : Reduced over
  over_low = record {
    positive = den_pos size d h;
    apart = λ k p q. eq-one_of_dvd-one (subst (λ n. k ∣ n) (gcd-over size d h) ((gcd-is (size / gcd size d) (d / gcd size d)).2 k (subst (λ n. k ∣ n) (size_sign z (size / gcd size d)) p) q));
  }

signed_same : (z : ℤ) (n d b : ℕ) → n * d ≡ nat_abs z * b → Same (record { numer = with_sign z n; denom = b }) (record { numer = z; denom = d })
signed_same (pos m) n d b e = ap pos e
signed_same (negsuc m) n d b e =
    let x = neg_is (pos n) in
    same_from (record { numer = neg_ℤ (pos n); denom = b }) (record { numer = negsuc m; denom = d })
    (omega (arith, ap (λ t. t * d) x.0, ap (λ t. t * d) x.1))

pub lowest-gives : (p f : Ratio) → 0 < p.denom → lowest p ≡ Ok f → Lowest p f
lowest-gives p f h e =
    let z = p.numer in
    let d = p.denom in
    let n = nat_abs z / gcd (nat_abs z) d in
    let b = d / gcd (nat_abs z) d in
    let g = given_out z n b f (fits n b) refl e in
    subst (Lowest p) g.1 (record { same = signed_same z n d b (swapped z d h); low = over_low z d h; small = ap (λ m. fits m b) (size_sign z n) ∙ g.0 })

-- ---- and only that
size_parts : (z : ℤ) → nat_abs z ≡ up z + down z
size_parts (pos n) = omega arith
size_parts (negsuc n) = omega arith

sizes : (p q : Ratio) → Same p q → nat_abs p.numer * q.denom ≡ nat_abs q.numer * p.denom
sizes p q e = omega (arith, ap (λ n. n * q.denom) (size_parts p.numer), ap (λ n. n * p.denom) (size_parts q.numer), same_up p q e, same_down p q e)

sign_kept : (z a : ℤ) (d b : ℕ) → 0 < d → 0 < b → up a * d ≡ up z * b → down a * d ≡ down z * b → with_sign z (nat_abs a) ≡ a
sign_kept (pos n) (pos m) d b h k u v = refl
sign_kept (pos n) (negsuc m) d b h k u v = let some : 0 < suc m * d = mul-pos (omega arith) h in absurd (omega arith)
sign_kept (negsuc n) (pos m) d b h k u v = let some : 0 < suc n * b = mul-pos (omega arith) k in absurd (omega arith)
sign_kept (negsuc n) (negsuc m) d b h k u v = refl

-- two fractions in lowest terms that are one number have one numerator's size and one denominator
module _ (s b n d : ℕ) (h : 0 < d) (k : 0 < b) (e : s * d ≡ n * b) (apart : gcd s b ≡ 1) where
  abbrev g : ℕ
  g = gcd n d

  abbrev A : ℕ
  A = n / g

  abbrev B : ℕ
  B = d / g

  smaller : s * B ≡ A * b
  smaller =
      let v = gcd-is n d in
      let cut = div-mul_cancel g v.0 in
      let cut' = div-mul_cancel g v.1 in
      eq_of_mul-eq-mul_right g (gcd-pos n d h) (s * B) (A * b) (omega (arith, ap (λ x. s * x) cut', e, ap (λ x. x * b) cut))

  denoms : b ≡ B
  denoms =
      let left : B ∣ b = divides_other A B b (gcd-over n d h) (subst (λ x. B ∣ x) smaller (dvd-mul_left B s)) in
      let right : b ∣ B = divides_other s b B apart (subst (λ x. b ∣ x) (sym smaller) (dvd-mul_left b A)) in
      dvd_antisymm right left

  numers : s ≡ A
  numers = eq_of_mul-eq-mul_right b k s A (ap (λ x. s * x) denoms ∙ smaller)

pub lowest-only : (p f : Ratio) → 0 < p.denom → Lowest p f → lowest p ≡ Ok f
lowest-only p f h l =
    let z = p.numer in
    let d = p.denom in
    let a = f.numer in
    let b = f.denom in
    let s = nat_abs a in
    let v = gcd-is s b in
    let apart : gcd s b ≡ 1 = l.low.apart (gcd s b) v.0 v.1 in
    let eA = numers s b (nat_abs z) d h l.low.positive (sizes f p l.same) apart in
    let eB = denoms s b (nat_abs z) d h l.low.positive (sizes f p l.same) apart in
    let sign = sign_kept z a d b h l.low.positive (same_up f p l.same) (same_down f p l.same) in
    (λ i. bounded z (sym eA i) (sym eB i)) ∙ cond-true (fits s b) _ _ l.small ∙ ap (λ x. Ok (record { numer = x; denom = b })) sign

-- the same number has the same lowest terms
pub lowest-move : (p q f : Ratio) → 0 < p.denom → Same p q → Lowest p f → Lowest q f
lowest-move p q f h e l = record { same = same_trans f p q h l.same e; low = l.low; small = l.small }
