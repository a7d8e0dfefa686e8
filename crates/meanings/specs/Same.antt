-- When two meanings are the same: equal numbers, equal bit-vectors of one width, or equal texts. Assumes nothing.
use Rattle.std.specs.Prelude.{◌≡◌, Bool, true, false, ◌&&◌, ◌==◌, refl}
use Rattle.std.specs.Bool.{Decides}
use Rattle.std.specs.Ordering.{int_eq}
use Rattle.std.specs.Str.{bytes_eq}
use Rattle.std.specs.Cmp.{IsEquivalence, both_ways}
use Rattle.std.proofs.Common.{ap, subst}
use Rattle.std.proofs.lemmas.Bool.{eqb-true, eq-eqb, and_parts, and_from, false≢true}
use Rattle.std.proofs.lemmas.Bool.Decides.{Decides-int_eq}
use Rattle.std.proofs.lemmas.Slice.Eq.{bytes_eq-Decides}
use Rattle.meanings.specs.Meanings.{Said, number, vector, texts}

abbrev pub same : Said → Said → Bool
same (number a) (number b) = int_eq a.numer b.numer && a.denom == b.denom
same (number a) (vector w) = false
same (number a) (texts u w) = false
same (vector v) (number b) = false
same (vector v) (vector w) = v.value == w.value && v.bits == w.bits
same (vector v) (texts u w) = false
same (texts t v) (number b) = false
same (texts t v) (vector w) = false
same (texts t v) (texts u w) = bytes_eq t u && bytes_eq v w

same-is : (a b : Said) → same a b ≡ true → a ≡ b
same-is (number a) (number b) e =
    let p = and_parts (int_eq a.numer b.numer) (a.denom == b.denom) e in
    λ z. number (record { numer = (Decides-int_eq a.numer b.numer).0 p.0 z; denom = eqb-true a.denom b.denom p.1 z })
same-is (number a) (vector w) e = absurd (false≢true e)
same-is (number a) (texts u w) e = absurd (false≢true e)
same-is (vector v) (number b) e = absurd (false≢true e)
same-is (vector v) (vector w) e =
    let p = and_parts (v.value == w.value) (v.bits == w.bits) e in
    λ z. vector (record { value = eqb-true v.value w.value p.0 z; bits = eqb-true v.bits w.bits p.1 z })
same-is (vector v) (texts u w) e = absurd (false≢true e)
same-is (texts t v) (number b) e = absurd (false≢true e)
same-is (texts t v) (vector w) e = absurd (false≢true e)
same-is (texts t v) (texts u w) e =
    let p = and_parts (bytes_eq t u) (bytes_eq v w) e in
    λ z. texts ((bytes_eq-Decides t u).0 p.0 z) ((bytes_eq-Decides v w).0 p.1 z)

same-self : (a : Said) → same a a ≡ true
same-self (number a) = and_from (int_eq a.numer a.numer) (a.denom == a.denom) ((Decides-int_eq a.numer a.numer).1 refl) (eq-eqb a.denom a.denom refl)
same-self (vector v) = and_from (v.value == v.value) (v.bits == v.bits) (eq-eqb v.value v.value refl) (eq-eqb v.bits v.bits refl)
same-self (texts t v) = and_from (bytes_eq t t) (bytes_eq v v) ((bytes_eq-Decides t t).1 refl) ((bytes_eq-Decides v v).1 refl)

-- two meanings are the same exactly when they say the same
abbrev pub SameStands : Type 0
SameStands = (a b : Said) → Decides (same a b) (a ≡ b)

pub same_decides : SameStands
same_decides a b = (same-is a b, λ e. subst (λ x. same a x ≡ true) e (same-self a))

-- so it is an equivalence
pub same_equiv : IsEquivalence same
same_equiv = record {
  refl = same-self;
  symm = λ a b. both_ways (same a b) (same b a) (λ e. subst (λ x. same x a ≡ true) (same-is a b e) (same-self a)) (λ e. subst (λ x. same x b ≡ true) (same-is b a e) (same-self b));
  congr = λ a b c e. ap (λ x. same x c) (same-is a b e);
}
