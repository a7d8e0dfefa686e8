-- Digits without leading zeros: more of them write a larger number, and as many are compared byte by byte. So two of them that
-- write one number are the same text, which is what `decimal` writes. Assumes nothing.
use Rattle.std.proofs.Common.{◌≡◌, ℕ, ◌+◌, ◌-◌, ◌*◌, ◌^◌, ◌<◌, ◌≤◌, true, eqb, List, [], ◌∷◌, map, length, get_or, sym, refl, ap, ◌∙◌, ⊎_elim, mul-le-mul_right, mul_assoc, arith}
use native.Mathlib.Nat.{pow-zero, pow-succ', pow-le-pow_right}
use Rattle.std.specs.Ordering.{ordering_then}
use Rattle.std.specs.Int.Digits.{digits_of, number_from_digits_after, AllBelowBase}
use Rattle.std.proofs.lemmas.Int.Digits.{all_below_base_digits_of, first_digits_of, number_digits_of}
use Rattle.std.proofs.lemmas.Bool.{and_parts, eq-eqb, ne_eqb, cond-true, cond-false, cases_eq}
use Rattle.version.specs.Grammar.{digit, every, decimal}
use Rattle.version.specs.Precedence.{by_value, bytes_order}
use Rattle.version.specs.Reader.{value_on, numeral}
use Rattle.version.proofs.Values.{digit-within, numeral-digits}
use Rattle.version.proofs.Orders.{value_same, then_equal, same_values, same_lists}
use Rattle.std.proofs.lemmas.Bool.Decides.{nat_tests}

-- digits after the number n write at least n and as many zeros, and less than n + 1 and as many zeros
pub value_below : (n : ℕ) (ds : List ℕ) → every digit ds ≡ true → value_on n ds < (n + 1) * 10 ^ length ds
value_below n [] h = omega (arith, ap (λ x. (n + 1) * x) (pow-zero 10))
value_below n (b ∷ bs) h =
    let p = and_parts (digit b) (every digit bs) h in
    let d = digit-within b p.0 in
    let step : n * 10 + (b - 48) + 1 ≤ (n + 1) * 10 = omega arith in
    omega (arith, value_below (n * 10 + (b - 48)) bs p.1, mul-le-mul_right (10 ^ length bs) step, mul_assoc (n + 1) 10 (10 ^ length bs), ap (λ x. (n + 1) * x) (pow-succ' 10 (length bs)))

pub value_above : (n : ℕ) (ds : List ℕ) → n * 10 ^ length ds ≤ value_on n ds
value_above n [] = omega (arith, ap (λ x. n * x) (pow-zero 10))
value_above n (b ∷ bs) =
    let step : n * 10 ≤ n * 10 + (b - 48) = omega arith in
    omega (arith, value_above (n * 10 + (b - 48)) bs, mul-le-mul_right (10 ^ length bs) step, mul_assoc n 10 (10 ^ length bs), ap (λ x. n * x) (pow-succ' 10 (length bs)))

-- a smaller number in front decides
front-decides : (m n : ℕ) (s t : List ℕ) → m < n → every digit s ≡ true → length s ≡ length t → value_on m s < value_on n t
front-decides m n s t l h e =
    let step : m + 1 ≤ n = omega arith in
    omega (arith, value_below m s h, value_above n t, mul-le-mul_right (10 ^ length s) step, ap (λ k. n * 10 ^ k) e)

-- as many digits are compared byte by byte
pub by_bytes : (n : ℕ) (s t : List ℕ) → every digit s ≡ true → every digit t ≡ true → length s ≡ length t → bytes_order s t ≡ by_value (value_on n s) (value_on n t)
by_bytes n [] [] p q e = sym (value_same n n refl)
by_bytes n [] (y ∷ ys) p q e = absurd (omega arith)
by_bytes n (x ∷ xs) [] p q e = absurd (omega arith)
by_bytes n (x ∷ xs) (y ∷ ys) p q e =
    let ps = and_parts (digit x) (every digit xs) p in
    let qs = and_parts (digit y) (every digit ys) q in
    let dx = digit-within x ps.0 in
    let dy = digit-within y qs.0 in
    let same : length xs ≡ length ys = omega arith in
    let less = λ (l : n * 10 + (x - 48) < n * 10 + (y - 48)). front-decides _ _ xs ys l ps.1 same in
    let more = λ (l : n * 10 + (y - 48) < n * 10 + (x - 48)). front-decides _ _ ys xs l qs.1 (sym same) in
    let rest = by_bytes (n * 10 + (x - 48)) xs ys ps.1 qs.1 same in
    grind (arith, nat_tests)

numeral-first : (b : ℕ) (bs : List ℕ) → numeral (b ∷ bs) ≡ true → 0 < length bs → 48 < b
numeral-first b bs h l = grind (arith, nat_tests)

numeral-some : (t : List ℕ) → numeral t ≡ true → 0 < length t
numeral-some [] h = absurd (cc)
numeral-some (b ∷ bs) h = omega arith

-- more digits write a larger number
pub shorter_less : (s t : List ℕ) → numeral s ≡ true → numeral t ≡ true → length s < length t → value_on 0 s < value_on 0 t
shorter_less s [] p q l = absurd (omega arith)
shorter_less s (b ∷ bs) p q l =
    let some = numeral-some s p in
    let first = numeral-first b bs q (omega arith) in
    let powers : 10 ^ length s ≤ 10 ^ length bs = pow-le-pow_right (omega arith) (omega arith) in
    let step : 1 ≤ 0 * 10 + (b - 48) = omega arith in
    omega (arith, value_below 0 s (numeral-digits s p), value_above (0 * 10 + (b - 48)) bs, mul-le-mul_right (10 ^ length bs) step)

-- numbers are compared by how many digits they have, and then byte by byte
pub by_numerals : (s t : List ℕ) → numeral s ≡ true → numeral t ≡ true → ordering_then (by_value (length s) (length t)) (bytes_order s t) ≡ by_value (value_on 0 s) (value_on 0 t)
by_numerals s t p q =
    let less = shorter_less s t p q in
    let more = shorter_less t s q p in
    let rest = by_bytes 0 s t (numeral-digits s p) (numeral-digits t q) in
    grind (arith, nat_tests)

same_numeral : (s t : List ℕ) → numeral s ≡ true → numeral t ≡ true → value_on 0 s ≡ value_on 0 t → s ≡ t
same_numeral s t p q v = same_lists by_value same_values s t (then_equal _ _ (by_numerals s t p q ∙ value_same _ _ v)).1

-- ---- `decimal` writes a numeral, of the number
bytes_digits : (ds : List ℕ) → AllBelowBase 10 ds → every digit (map (λ d. 48 + d) ds) ≡ true
bytes_digits [] h = refl
bytes_digits (d ∷ ds) h = let rest = bytes_digits ds h.1 in grind (arith, nat_tests)

bytes_numeral : (ds : List ℕ) → AllBelowBase 10 ds → 0 < get_or ds 0 0 → numeral (map (λ d. 48 + d) ds) ≡ true
bytes_numeral [] h l = absurd (omega arith)
bytes_numeral (d ∷ ds) h l = let all = bytes_digits (d ∷ ds) h in grind (arith, nat_tests)

bytes_value : (n : ℕ) (ds : List ℕ) → value_on n (map (λ d. 48 + d) ds) ≡ number_from_digits_after 10 n ds
bytes_value n [] = refl
bytes_value n (d ∷ ds) =
    let e : n * 10 + (48 + d - 48) ≡ n * 10 + d = omega arith in
    ap (λ k. value_on k (map (λ d. 48 + d) ds)) e ∙ bytes_value (n * 10 + d) ds

pub decimal-numeral : (n : ℕ) → numeral (decimal n) ≡ true
decimal-numeral n = ⊎_elim
    (λ e. ap numeral (cond-true (eqb n 0) _ _ (eq-eqb n 0 e)))
    (λ ne. ap numeral (cond-false (eqb n 0) _ _ (ne_eqb n 0 ne)) ∙ bytes_numeral (digits_of 10 n) (all_below_base_digits_of 10 n (omega arith)) (first_digits_of 10 n (omega arith) (omega arith)))
    (cases_eq n 0)

pub decimal-value : (n : ℕ) → value_on 0 (decimal n) ≡ n
decimal-value n =
    let bytes = bytes_value 0 (digits_of 10 n) in let number = number_digits_of 10 n (omega arith) in grind (arith, nat_tests)

pub decimal-of : (t : List ℕ) → numeral t ≡ true → decimal (value_on 0 t) ≡ t
decimal-of t p = same_numeral (decimal (value_on 0 t)) t (decimal-numeral (value_on 0 t)) p (decimal-value (value_on 0 t))
