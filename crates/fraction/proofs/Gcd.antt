-- Euclid's steps. Assumes nothing.
use Rattle.std.proofs.Common.{◌≡◌, ℕ, zero, suc, ◌+◌, ◌*◌, ◌/◌, ◌%◌, ◌<◌, ◌≤◌, sym, refl, ap, ◌∙◌, subst, mul-pos, one-mul, zero-mul, le-div_iff_mul-le, mul-div_cancel, arith}
use Prim.Native.Nat.{◌∣◌}
use native.Mathlib.Nat.{dvd-zero, dvd-mul_right, pos_of_dvd_of_pos, div-mul_cancel, eq_of_mul-eq-mul_right, mul-mod_left}
use lib.Arith.{mod-mul}
use Rattle.std.specs.Int.{IsGcd}
use Rattle.std.proofs.lemmas.Nat.Gcd.{IsGcd-from_zero, IsGcd-from_mod, le_of_dvd}
use Rattle.fraction.specs.Divisors.{gcd_by, gcd}

-- more turns than the second number change nothing
gcd-turns : (f g a b : ℕ) → b ≤ f → b ≤ g → gcd_by f a b ≡ gcd_by g a b
gcd-turns zero zero a b h k = refl
gcd-turns zero (suc g) a zero h k = refl
gcd-turns zero (suc g) a (suc b) h k = absurd (omega arith)
gcd-turns (suc f) zero a zero h k = refl
gcd-turns (suc f) zero a (suc b) h k = absurd (omega arith)
gcd-turns (suc f) (suc g) a zero h k = refl
gcd-turns (suc f) (suc g) a (suc b) h k = gcd-turns f g (suc b) (a % suc b) (omega arith) (omega arith)

pub gcd-step : (a b : ℕ) → 0 < b → gcd a b ≡ gcd b (a % b)
gcd-step a zero h = absurd (omega arith)
gcd-step a (suc b) h = gcd-turns b (a % suc b) (suc b) (a % suc b) (omega arith) (omega arith)

gcd_by-is : (f a b : ℕ) → b ≤ f → IsGcd a b (gcd_by f a b)
gcd_by-is zero a b h = IsGcd-from_zero a b (omega arith)
gcd_by-is (suc f) a zero h = IsGcd-from_zero a 0 refl
gcd_by-is (suc f) a (suc b) h = IsGcd-from_mod a (suc b) _ (gcd_by-is f (suc b) (a % suc b) (omega arith))

pub gcd-is : (a b : ℕ) → IsGcd a b (gcd a b)
gcd-is a b = gcd_by-is b a b (omega arith)

pub gcd-pos : (a b : ℕ) → 0 < b → 0 < gcd a b
gcd-pos a b h = pos_of_dvd_of_pos (gcd-is a b).1 h

pub den_pos : (a b : ℕ) → 0 < b → 0 < b / gcd a b
den_pos a b h = let le = le_of_dvd h (gcd-is a b).1 in (le-div_iff_mul-le (gcd-pos a b h)).1 (omega arith)

-- ---- a common factor comes out
mod_scaled : (a b k : ℕ) → 0 < b → 0 < k → (a * k) % (b * k) ≡ (a % b) * k
mod_scaled a b k h p =
    mod-mul (a * k) h p ∙ ap (λ n. (n % b) * k + (a * k) % k) (mul-div_cancel a p) ∙ omega (arith, mul-mod_left a k)

gcd-scaled : (a b k : ℕ) → 0 < k → gcd (a * k) (b * k) ≡ gcd a b * k
gcd-scaled a b k p = by b a b (omega arith)
  where
    by : (f a b : ℕ) → b ≤ f → gcd (a * k) (b * k) ≡ gcd a b * k
    by f a zero h = ap (gcd (a * k)) (zero-mul k)
    by zero a (suc b) h = absurd (omega arith)
    by (suc f) a (suc b) h =
        gcd-step (a * k) (suc b * k) (mul-pos (omega arith) p)
        ∙ ap (gcd (suc b * k)) (mod_scaled a (suc b) k (omega arith) p)
        ∙ by f (suc b) (a % suc b) (omega arith)
        ∙ ap (λ g. g * k) (sym (gcd-step a (suc b) (omega arith)))

-- what is left over the greatest common divisor has no common divisor but 1
pub gcd-over : (a b : ℕ) → 0 < b → gcd (a / gcd a b) (b / gcd a b) ≡ 1
gcd-over a b h =
    let g = gcd a b in
    let d = gcd-is a b in
    let p = gcd-pos a b h in
    let left : a / g * g ≡ a = div-mul_cancel g d.0 in
    let right : b / g * g ≡ b = div-mul_cancel g d.1 in
    let all : gcd (a / g) (b / g) * g ≡ 1 * g = sym (gcd-scaled (a / g) (b / g) g p) ∙ (λ i. gcd (left i) (right i)) ∙ sym (one-mul g) in
    eq_of_mul-eq-mul_right g p (gcd (a / g) (b / g)) 1 all

-- Euclid's lemma: what divides a product and is apart from one factor divides the other
pub divides_other : (a b k : ℕ) → gcd a b ≡ 1 → b ∣ a * k → b ∣ k
divides_other a b zero e h = dvd-zero b
divides_other a b (suc k) e h =
    let g : gcd (a * suc k) (b * suc k) ≡ suc k = gcd-scaled a b (suc k) (omega arith) ∙ ap (λ n. n * suc k) e ∙ one-mul (suc k) in
    subst (λ n. b ∣ n) g ((gcd-is (a * suc k) (b * suc k)).2 b h (dvd-mul_right b (suc k)))
