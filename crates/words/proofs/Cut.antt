-- One word taken off the front of a line. Assumes nothing.
use Rattle.std.proofs.Common.{◌≡◌, ℕ, ◌+◌, ◌<◌, ◌≤◌, Bool, List, [], ◌∷◌, length, Option, Bor, take, drop, Some, None, position, unwrap_or, sym, refl, ap, ◌∙◌, ⊎_elim, arith}
use Rattle.std.specs.List.{position_or_len}
use Rattle.std.specs.Slice.{IsGetRangeResult}
use Rattle.std.proofs.lemmas.Bool.Decides.{nat_tests}
use Rattle.std.proofs.lemmas.List.{take_rest, take_all}
use Rattle.std.proofs.lemmas.Grind.{common_steps}
use Rattle.std.proofs.lemmas.List.Splits.{slice_split_none, slice_split_first, length-slice_split}
use Rattle.std.proofs.lemmas.List.Sums.{fails_before_first, count_by-le-length}
use Rattle.words.specs.Words.{separates, split_by, words_of, ahead, size_left, first_of, rest_of}

-- how many bytes stand before the first that passes a test
abbrev pub before : (ℕ → Bool) → List ℕ → ℕ
before p xs = position_or_len p xs

-- n is the place of the first byte that passes
pub taken : (p : ℕ → Bool) (xs : List ℕ) (n : ℕ) → n ≡ before p xs → n < length xs → split_by p xs ≡ take n xs ∷ split_by p (drop (n + 1) xs)
taken p xs n e h = rw e (slice_split_first p xs 0 (rw e at h))

-- no byte passes
past : (p : ℕ → Bool) (xs : List ℕ) → length xs ≤ before p xs → split_by p xs ≡ xs ∷ []
past p xs h = slice_split_none p xs (λ k x m. let f = fails_before_first p xs k x (grind (arith, common_steps)) in grind (arith, common_steps))

pub taken_last : (p : ℕ → Bool) (xs : List ℕ) (n : ℕ) → n ≡ before p xs → n ≡ length xs → split_by p xs ≡ xs ∷ []
taken_last p xs n e h = past p xs (omega arith)

-- the same, by what `position` gives
pub taken_at : (p : ℕ → Bool) (xs : List ℕ) (n : ℕ) → position p xs ≡ Some n → split_by p xs ≡ take n xs ∷ split_by p (drop (n + 1) xs)
taken_at p xs n h = taken p xs n (grind (arith, nat_tests)) (grind (arith, nat_tests))

pub taken_none : (p : ℕ → Bool) (xs : List ℕ) → position p xs ≡ None → split_by p xs ≡ xs ∷ []
taken_none p xs h = past p xs (grind (arith, nat_tests))

-- at least one word, and at most one more than there are bytes
pub words_count : (xs : List ℕ) → (0 < length (words_of xs)) × (length (words_of xs) ≤ length xs + 1)
words_count xs = (omega (arith, length-slice_split separates xs), omega (arith, length-slice_split separates xs, count_by-le-length separates xs))

-- the first of some words, and those behind it
pub from_first : (ms ns : List (List ℕ)) (w : List ℕ) → Some w ≡ first_of ms → ns ≡ rest_of ms → ms ≡ w ∷ ns
from_first [] ns w e h = cc
from_first (m ∷ ms) ns w e h = cc

pub none_first : (ms : List (List ℕ)) → None ≡ first_of ms → ms ≡ []
none_first [] e = cc
none_first (m ∷ ms) e = cc

-- ---- what is ahead of a cursor behind a word that ends at n
pub ahead_more : (xs : List ℕ) (n : ℕ) (r : Option (Bor (List ℕ))) → IsGetRangeResult xs (n + 1) (length xs) r → n < length xs → ahead r ≡ words_of (drop (n + 1) xs)
ahead_more xs n None h l = absurd (⊎_elim (λ a. omega arith) (λ a. omega arith) h.0)
ahead_more xs n (Some s) h l = ap words_of (h.0.2 ∙ take_rest xs (n + 1))

pub ahead_end : (xs : List ℕ) (n : ℕ) (r : Option (Bor (List ℕ))) → IsGetRangeResult xs (n + 1) (length xs) r → length xs ≤ n → ahead r ≡ []
ahead_end xs n None h l = refl
ahead_end xs n (Some s) h l = absurd (omega arith)

pub ahead_size : (xs : List ℕ) (n : ℕ) (r : Option (Bor (List ℕ))) → IsGetRangeResult xs (n + 1) (length xs) r → n ≤ length xs → size_left r + n ≤ length xs
ahead_size xs n None h l = omega arith
ahead_size xs n (Some s) h l = omega arith

-- n is the place that `position` gives, or the end
pub first_cut : (xs : List ℕ) (o : Option ℕ) (n : ℕ) (r : Option (Bor (List ℕ))) → o ≡ position separates xs → n ≡ unwrap_or o (length xs) → IsGetRangeResult xs (n + 1) (length xs) r → words_of xs ≡ take n xs ∷ ahead r
first_cut xs None n r p e h = let all = take_all n xs (omega arith) in let end = ahead_end xs n r h (omega arith) in let one = taken_none separates xs (sym p) in cc
first_cut xs (Some k) n r p e h = taken_at separates xs n (sym p ∙ ap Some (sym e)) ∙ ap (λ ws. take n xs ∷ ws) (sym (ahead_more xs n r h (grind (arith, nat_tests))))
