-- The slots that a table uses, written and given back. Assumes nothing.
use Rattle.std.proofs.Common.{◌≡◌, ℕ, ◌<◌, min, List, ◌++◌, length, get_or, take, drop, set, sym, ap, ◌∙◌, ⊎_elim, append-nil, arith, length-take, get_or-take}
use Rattle.std.proofs.Math.Seq.{take-set-lt}
use Rattle.std.proofs.lemmas.List.{take_all, take_at, drop_all, drop-set-lt}
use Rattle.std.proofs.lemmas.Slice.{drop-append-drop}
use Rattle.std.proofs.lemmas.Bool.{cases_lt}
use Rattle.keyed.specs.Slots.{used, unused}

module _ {A : Type 0} (xs : List A) where
  pub used_size : length (used xs) ≡ min 16777216 (length xs)
  used_size = length-take 16777216 xs

  module _ (i : ℕ) (x : A) (within : i < length (used xs)) where
    pub used_at : get_or xs i x ≡ get_or (used xs) i x
    used_at = sym (get_or-take 16777216 xs i x (omega (arith, used_size)))

    pub used-set : used (set xs i x) ≡ set (used xs) i x
    used-set = take-set-lt 16777216 xs i x (omega (arith, used_size))

    pub unused-set : unused (set xs i x) ≡ unused xs
    unused-set = drop-set-lt 16777216 xs i x (omega (arith, used_size))

  -- where ys was written over the first n, which are those used
  module _ (ys : List A) (n : ℕ) (few : n ≡ min 16777216 (length xs)) (size : length ys ≡ length (take n xs)) where
    written_size : length ys ≡ n
    written_size = size ∙ length-take n xs ∙ omega arith

    pub used-written : used (ys ++ drop n xs) ≡ ys
    used-written =
        ⊎_elim
        (λ lt. take_at ys (drop n xs) 16777216 (omega (arith, written_size)))
        (λ le. ap (λ z. used (ys ++ z)) (drop_all n xs (omega arith)) ∙ ap used (append-nil ys) ∙ take_all 16777216 ys (omega (arith, written_size)))
        (cases_lt 16777216 (length xs))

    pub unused-written : unused (ys ++ drop n xs) ≡ unused xs
    unused-written = drop-append-drop n xs ys 16777216 (omega arith) written_size

    pub written_few : length ys ≡ min (length xs) 16777216
    written_few = omega (arith, written_size)
