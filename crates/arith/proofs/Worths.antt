-- What the arithmetic of fractions says of the numbers that expressions are. Assumes nothing.
use Rattle.std.proofs.Common.{◌≡◌, ℕ, zero, suc, ◌*◌, ◌<◌, Bool, true, false, cond, eqb, ℤ, pos, negsuc, neg_ℤ, nat_abs, Some, None, Ok, Err, Option, sym, refl, ap, ◌∙◌, subst, mul-pos, arith}
use Prim.Native.Nat.{◌∣◌}
use Rattle.std.specs.Option.{option_map}
use Rattle.std.proofs.lemmas.Bool.{cond-false}
use Rattle.std.proofs.lemmas.Bool.Decides.{nat_tests}
use Rattle.fraction.specs.declared.FractionFault.TheVariants.{ZeroDivisor}
use Rattle.fraction.specs.Bounds.{fits}
use Rattle.fraction.specs.Ratios.{Ratio, Same, whole, negative, difference, quotient}
use Rattle.fraction.specs.Fractions.{lowest, divide}
use Rattle.fraction.proofs.Lowest.{lowest-gives, lowest-only, lowest-move}
use Rattle.fraction.proofs.Rational.{sum_same, product-same, difference-same, negative-same, quotient-same, nonzero-same}
use Rattle.arith.specs.Expressions.{Many, sums, products, both, nonzero, join, Is}

-- ---- an operation that any two numbers have
module _ (op : Ratio → Ratio → Ratio) (positive : (p q : Ratio) → 0 < p.denom → 0 < q.denom → 0 < (op p q).denom)
    (same : (p q p' q' : Ratio) → Same p p' → Same q q' → Same (op p q) (op p' q')) where
  both-gives : (o u : Option Ratio) (x y f : Ratio) → Is o x → Is u y → lowest (op x y) ≡ Ok f → Is (both op o u) f
  both-gives None u x y f a b e = absurd a
  both-gives (Some p) None x y f a b e = absurd b
  both-gives (Some p) (Some q) x y f a b e =
      let h = positive x y a.1.low.positive b.1.low.positive in
      (positive p q a.0 b.0, lowest-move (op x y) (op p q) f h (same x y p q a.1.same b.1.same) (lowest-gives (op x y) f h e))

  both-needs : (o u : Option Ratio) (x y f : Ratio) → Is o x → Is u y → Is (both op o u) f → lowest (op x y) ≡ Ok f
  both-needs None u x y f a b l = absurd a
  both-needs (Some p) None x y f a b l = absurd b
  both-needs (Some p) (Some q) x y f a b l =
      lowest-only (op x y) f (positive x y a.1.low.positive b.1.low.positive) (lowest-move (op p q) (op x y) f l.0 (sym (same x y p q a.1.same b.1.same)) l.1)

denoms_positive : (p q : Ratio) → 0 < p.denom → 0 < q.denom → 0 < p.denom * q.denom
denoms_positive p q h k = mul-pos h k

join-positive : (m : Many) (p q : Ratio) → 0 < p.denom → 0 < q.denom → 0 < (join m p q).denom
join-positive sums p q h k = mul-pos h k
join-positive products p q h k = mul-pos h k

join-same : (m : Many) (p q p' q' : Ratio) → Same p p' → Same q q' → Same (join m p q) (join m p' q')
join-same sums = sum_same
join-same products = product-same

module _ (m : Many) where
  pub join-gives : (o u : Option Ratio) (x y f : Ratio) → Is o x → Is u y → lowest (join m x y) ≡ Ok f → Is (both (join m) o u) f
  join-gives = both-gives (join m) (join-positive m) (join-same m)

  pub join-needs : (o u : Option Ratio) (x y f : Ratio) → Is o x → Is u y → Is (both (join m) o u) f → lowest (join m x y) ≡ Ok f
  join-needs = both-needs (join m) (join-positive m) (join-same m)

pub less_gives : (o u : Option Ratio) (x y f : Ratio) → Is o x → Is u y → lowest (difference x y) ≡ Ok f → Is (both difference o u) f
less_gives = both-gives difference denoms_positive difference-same

pub less_needs : (o u : Option Ratio) (x y f : Ratio) → Is o x → Is u y → Is (both difference o u) f → lowest (difference x y) ≡ Ok f
less_needs = both-needs difference denoms_positive difference-same

-- ---- a quotient
some_size : (n : ℕ) → eqb n 0 ≡ false → 0 < n
some_size n e = grind (arith, nat_tests)

size_some : (n : ℕ) → 0 < n → eqb n 0 ≡ false
size_some n h = grind (arith, nat_tests)

pub over_gives : (o u : Option Ratio) (x y f : Ratio) → Is o x → Is u y → divide x y ≡ Ok f → Is (both quotient o (nonzero u)) f
over_gives None u x y f a b e = absurd a
over_gives (Some p) None x y f a b e = absurd b
over_gives (Some p) (Some q) x y f a b e = by (eqb (nat_abs y.numer) 0) refl e
  where
    by : (t : Bool) → eqb (nat_abs y.numer) 0 ≡ t → cond t (Err ZeroDivisor) (lowest (quotient x y)) ≡ Ok f → Is (both quotient (Some p) (nonzero (Some q))) f
    by true z h = absurd (cc)
    by false z h =
        let m = some_size (nat_abs y.numer) z in
        let n = nonzero-same y q b.0 m b.1.same in
        let k : 0 < (quotient x y).denom = mul-pos a.1.low.positive m in
        subst (λ u. Is (both quotient (Some p) u) f) (sym (cond-false (eqb (nat_abs q.numer) 0) None (Some q) (size_some (nat_abs q.numer) n)))
        (mul-pos a.0 n, lowest-move (quotient x y) (quotient p q) f k (quotient-same x y p q b.1.low.positive b.0 m n a.1.same b.1.same) (lowest-gives (quotient x y) f k h))

pub over_needs : (o u : Option Ratio) (x y f : Ratio) → Is o x → Is u y → Is (both quotient o (nonzero u)) f → divide x y ≡ Ok f
over_needs None u x y f a b l = absurd a
over_needs (Some p) None x y f a b l = absurd b
over_needs (Some p) (Some q) x y f a b l = by (eqb (nat_abs q.numer) 0) refl l
  where
    by : (t : Bool) → eqb (nat_abs q.numer) 0 ≡ t → Is (both quotient (Some p) (cond t None (Some q))) f → divide x y ≡ Ok f
    by true z h = absurd h
    by false z h =
        let n = some_size (nat_abs q.numer) z in
        let m = nonzero-same q y b.1.low.positive n (sym b.1.same) in
        let k : 0 < (quotient x y).denom = mul-pos a.1.low.positive m in
        cond-false (eqb (nat_abs y.numer) 0) _ _ (size_some (nat_abs y.numer) m)
        ∙ lowest-only (quotient x y) f k (lowest-move (quotient p q) (quotient x y) f h.0 (sym (quotient-same x y p q b.1.low.positive b.0 m n a.1.same b.1.same)) h.1)

-- ---- the other way round, and a numeral
size_opposite : (z : ℤ) → nat_abs (neg_ℤ z) ≡ nat_abs z
size_opposite (pos zero) = refl
size_opposite (pos (suc n)) = refl
size_opposite (negsuc n) = refl

pub opposite_is : (o : Option Ratio) (f : Ratio) → Is o f → Is (option_map negative o) (negative f)
opposite_is None f l = absurd l
opposite_is (Some q) f l =
    let e = size_opposite f.numer in (
      l.0,
      record {
        same = negative-same f q l.1.same;
        low = record { positive = l.1.low.positive; apart = λ k a b. l.1.low.apart k (subst (λ n. k ∣ n) e a) b };
        small = ap (λ n. fits n f.denom) e ∙ l.1.small;
      },
    )

pub whole-gives : (n : ℕ) (f : Ratio) → lowest (whole n) ≡ Ok f → Is (Some (whole n)) f
whole-gives n f e = let h : 0 < 1 = omega arith in (h, lowest-gives (whole n) f h e)

pub is-lowest : (q f : Ratio) → Is (Some q) f → lowest q ≡ Ok f
is-lowest q f l = lowest-only q f l.0 l.1

-- a number has one fraction
pub is_one : (o : Option Ratio) (f g : Ratio) → Is o f → Is o g → f ≡ g
is_one None f g l k = absurd l
is_one (Some q) f g l k = let a = is-lowest q f l in let b = is-lowest q g k in cc
