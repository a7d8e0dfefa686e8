-- One physical line taken off the front of the bytes. Assumes nothing.
use Rattle.std.proofs.Common.{◌≡◌, ℕ, ◌+◌, ◌-◌, ◌<◌, ◌≤◌, min, Bool, false, not, ◌&&◌, eqb, List, [], ◌∷◌, length, get_or, take, drop, refl, suc-add, one-add, arith}
use native.Mathlib.Numerals.{unary_clauses}
use Rattle.std.proofs.lemmas.List.{take_all, drop_all}
use Rattle.std.specs.List.{ends_with}
use Rattle.std.specs.Cmp.Lexicographic.{pointwise}
use Rattle.std.proofs.lemmas.List.Sums.{prefix_len_stops}
use Rattle.lines.specs.declared.LineMode.{LineMode}
use Rattle.lines.specs.declared.LineMode.TheVariants.{EachLine}
use Rattle.lines.specs.Lines.{is_lf, held, ended, piece, line_len, front, up_next, ends_in, lines_of}

pub ended-cut : (xs : List ℕ) → line_len xs < length xs → ended xs ≡ front xs ∷ ended (drop (line_len xs + 1) xs)
ended-cut [] h = absurd (omega arith)
ended-cut (b ∷ bs) h = grind (arith, one-add, suc-add, ended-cut bs)

pub ended-none : (xs : List ℕ) → length xs ≤ line_len xs → ended xs ≡ []
ended-none [] h = refl
ended-none (b ∷ bs) h = grind (arith, ended-none bs)

pub piece_cut : (xs : List ℕ) → line_len xs < length xs → piece xs ≡ piece (drop (line_len xs + 1) xs)
piece_cut [] h = absurd (omega arith)
piece_cut (b ∷ bs) h = grind (arith, one-add, suc-add, piece_cut bs, ended-cut bs)

pub piece-all : (xs : List ℕ) → length xs ≤ line_len xs → piece xs ≡ xs
piece-all [] h = refl
piece-all (b ∷ bs) h = grind (arith, ended-none bs)

pub up_next-front : (xs : List ℕ) → up_next (ended xs) (piece xs) ≡ front xs
up_next-front xs = grind (arith, ended-cut xs, ended-none xs, piece-all xs, take_all (line_len xs) xs)

-- the front, byte by byte
pub front-more : (b : ℕ) (bs : List ℕ) → is_lf b ≡ false → front (b ∷ bs) ≡ b ∷ front bs
front-more b bs e = grind (arith, one-add)

-- at the end of the first physical line stands an LF
pub lf_at : (xs : List ℕ) → line_len xs < length xs → get_or xs (line_len xs) 0 ≡ 10
lf_at xs h = let e = prefix_len_stops (λ b. not (is_lf b)) xs 0 h in grind arith

-- the last byte, as a test of the end of length one
ends_in-by : (P : List ℕ → Bool) (b : ℕ) → P [] ≡ false → ((x : ℕ) → P (x ∷ []) ≡ eqb x b) → (xs : List ℕ) → P (drop (length xs - 1) xs) ≡ ends_in b xs
ends_in-by P b none one [] = none
ends_in-by P b none one (x ∷ []) = one x
ends_in-by P b none one (x ∷ y ∷ ys) = let h = ends_in-by P b none one (y ∷ ys) in simp unary_clauses (simp unary_clauses at h)

pub ends_in-with : (b : ℕ) (xs : List ℕ) → ends_with eqb xs (b ∷ []) ≡ ends_in b xs
ends_in-with b xs = ends_in-by (λ t. pointwise eqb (b ∷ []) t) b refl (λ x. grind arith) xs

pub ends_in-tail : (b : ℕ) (xs : List ℕ) → pointwise eqb (drop (length xs - 1) xs) (b ∷ []) ≡ ends_in b xs
ends_in-tail b xs = ends_in-by (λ t. pointwise eqb t (b ∷ [])) b refl (λ x. grind arith) xs

-- without an LF everything is the last piece
pub nothing-ended : (xs : List ℕ) → held (ended xs) ≡ false → piece xs ≡ xs
nothing-ended xs e = grind (arith, ended-cut xs, ended-none xs, piece-all xs)

-- the last piece is empty if the bytes end in an LF, or are none
pub piece-held : (xs : List ℕ) → held (piece xs) ≡ (held xs && not (ends_in 10 xs))
piece-held [] = refl
piece-held (b ∷ []) = grind arith
piece-held (b ∷ c ∷ cs) = grind (arith, piece-held (c ∷ cs), nothing-ended (c ∷ cs))

-- the first line where every LF ends one: n is what `line_feed` answered, and k where the next line begins
pub each_cut : (m : LineMode) (xs : List ℕ) (n k : ℕ) → m ≡ EachLine → n ≡ line_len xs → false ≡ eqb (length xs) 0 → k ≡ min (n + 1) (length xs) → lines_of m xs ≡ take n xs ∷ lines_of m (drop k xs)
each_cut m xs n k m_is e h k_is = grind (arith, ended-cut xs, piece_cut xs, ended-none xs, piece-all xs, take_all (line_len xs) xs, drop_all (length xs) xs)
