-- One digit after another, and a space for each separator. Assumes nothing.
use Rattle.std.proofs.Common.{◌≡◌, ℕ, ◌+◌, ◌-◌, ◌*◌, ◌^◌, ◌<◌, ◌≤◌, min, cond, eqb, List, [], ◌∷◌, length, get_or, take, drop, Some, None, Ok, Err, Option, sym, refl, ap, ◌∙◌, arith}
use Rattle.std.proofs.lemmas.List.{at_drop_more, at_drop_all, length-map, take_rest}
use Rattle.std.proofs.lemmas.Bool.{cond-true, cond-false, eq-eqb, le-leb, lt-leb}
use Rattle.std.proofs.lemmas.Bool.Decides.{nat_tests}
use Rattle.words.specs.Joined.{as_space, spaces}
use Rattle.bitvec.specs.declared.Base.{Base}
use Rattle.bitvec.specs.declared.Base.TheVariants.{Binary, Hexadecimal}
use Rattle.bitvec.specs.declared.BitVecFault.TheVariants.{Unreadable, TooLarge}
use Rattle.bitvec.specs.BitVecs.{digit_in, radix, bits_of, step_in, number_from, sized, numbered, of_digits, of_base, bit_vec}

-- a bad digit is never mended
never : (t : Base) (ds : List ℕ) → number_from t None ds ≡ None
never t [] = refl
never t (d ∷ ds) = never t ds

number_more : (t : Base) (v : ℕ) (ds : List ℕ) (i : ℕ) (o : Option ℕ) → i < length ds → digit_in t (get_or ds i 0) ≡ o → number_from t (Some v) (drop i ds) ≡ number_from t (step_in t (Some v) o) (drop (i + 1) ds)
number_more t v ds i o h e = at_drop_more (number_from t (Some v)) ds i 0 h ∙ ap (λ x. number_from t (step_in t (Some v) x) (drop (i + 1) ds)) e

-- what a reader knows when the first i digits are read: v is their value, or the largest number of 128 bits
pub record Reading (t : Base) (v i : ℕ) (ds : List ℕ) : Type 0 where
  pub exact : ℕ
  pub same : number_from t (Some exact) (drop i ds) ≡ number_from t (Some 0) ds
  pub near : v ≡ min exact (2 ^ 128 - 1)

near_more : (t : Base) (v m d w : ℕ) → v ≡ min m (2 ^ 128 - 1) → w ≡ min (min (v * radix t) (2 ^ 128 - 1) + d) (2 ^ 128 - 1) → w ≡ min (m * radix t + d) (2 ^ 128 - 1)
near_more Binary v m d w e h = omega arith
near_more Hexadecimal v m d w e h = omega arith

pub reading_more : (t : Base) (v i d w : ℕ) (ds : List ℕ) → Reading t v i ds → i < length ds → digit_in t (get_or ds i 0) ≡ Some d → w ≡ min (min (v * radix t) (2 ^ 128 - 1) + d) (2 ^ 128 - 1) → Reading t w (i + 1) ds
reading_more t v i d w ds r h e is = record {
  exact = r.exact * radix t + d;
  same = sym (number_more t r.exact ds i (Some d) h e) ∙ r.same;
  near = near_more t v r.exact d w r.near is;
}

some_digits : (t : Base) (ds : List ℕ) → 0 < length ds → of_digits t ds ≡ numbered (length ds * bits_of t) (number_from t (Some 0) ds)
some_digits t [] n = absurd (omega arith)
some_digits t (d ∷ ds) n = refl

pub digits_bad : (t : Base) (v i : ℕ) (ds : List ℕ) → Reading t v i ds → i < length ds → digit_in t (get_or ds i 0) ≡ None → of_digits t ds ≡ Err Unreadable
digits_bad t v i ds r h e =
    some_digits t ds (omega arith)
    ∙ ap (numbered (length ds * bits_of t)) (sym r.same ∙ number_more t r.exact ds i None h e ∙ never t (drop (i + 1) ds))

module _ (t : Base) (v i : ℕ) (ds : List ℕ) (r : Reading t v i ds) (h : length ds ≤ i) (n : 0 < length ds) where
  whole : of_digits t ds ≡ sized r.exact (length ds * bits_of t)
  whole = some_digits t ds n ∙ ap (numbered (length ds * bits_of t)) (sym r.same ∙ at_drop_all (number_from t (Some r.exact)) ds i h)

  pub digits_ok : v < 2 ^ 64 → of_digits t ds ≡ Ok (record { value = v; bits = length ds * bits_of t })
  digits_ok l = let e : r.exact ≡ v = omega (arith, r.near) in whole ∙ ap (λ x. sized x (length ds * bits_of t)) e ∙ cond-true _ _ _ (le-leb v 18446744073709551615 (omega arith))

  pub digits_over : 2 ^ 64 ≤ v → of_digits t ds ≡ Err TooLarge
  digits_over l = whole ∙ cond-false _ _ _ (lt-leb r.exact 18446744073709551615 (omega (arith, r.near)))

-- ---- a space for each separator changes no value
digit_space : (t : Base) (b : ℕ) → digit_in t (as_space b) ≡ digit_in t b
digit_space Binary b = grind (arith, nat_tests)
digit_space Hexadecimal b = grind (arith, nat_tests)

number-spaces : (t : Base) (v : Option ℕ) (ds : List ℕ) → number_from t v (spaces ds) ≡ number_from t v ds
number-spaces t v [] = refl
number-spaces t v (d ∷ ds) = number-spaces t (step_in t v (digit_in t (as_space d))) ds ∙ ap (λ o. number_from t (step_in t v o) ds) (digit_space t d)

digits_spaces : (t : Base) (ds : List ℕ) → of_digits t (spaces ds) ≡ of_digits t ds
digits_spaces t [] = refl
digits_spaces t (d ∷ ds) = λ i. numbered (length-map (d ∷ ds) as_space i * bits_of t) (number-spaces t (Some 0) (d ∷ ds) i)

base_spaces : (bs : List ℕ) → of_base (spaces bs) ≡ of_base bs
base_spaces [] = refl
base_spaces (b ∷ ds) =
    let x : eqb (as_space b) 120 ≡ eqb b 120 = grind (arith, nat_tests) in
    let y : eqb (as_space b) 98 ≡ eqb b 98 = grind (arith, nat_tests) in
    λ i. cond (x i) (digits_spaces Hexadecimal ds i) (cond (y i) (digits_spaces Binary ds i) (Err Unreadable))

pub vec_spaces : (s : List ℕ) → bit_vec (spaces s) ≡ bit_vec s
vec_spaces [] = refl
vec_spaces (b ∷ bs) =
    let x : eqb (as_space b) 35 ≡ eqb b 35 = grind (arith, nat_tests) in
    λ i. cond (x i) (base_spaces bs i) (Err Unreadable)

-- the letter k behind the `#`
pub vec_base : (s : List ℕ) (k : ℕ) → 2 ≤ length s → get_or s 0 0 ≡ 35 → get_or s 1 0 ≡ k → bit_vec (spaces s) ≡ of_base (k ∷ take (length s - 2) (drop 2 s))
vec_base s k h e f = vec_spaces s ∙ by s h e f ∙ ap (λ l. of_base (k ∷ l)) (sym (take_rest s 2))
  where
    by : (s : List ℕ) → 2 ≤ length s → get_or s 0 0 ≡ 35 → get_or s 1 0 ≡ k → bit_vec s ≡ of_base (k ∷ drop 2 s)
    by [] h e f = absurd (omega arith)
    by (a ∷ []) h e f = absurd (omega arith)
    by (a ∷ b ∷ ds) h e f = λ i. cond (eq-eqb a 35 e i) (of_base (f i ∷ ds)) (Err Unreadable)
