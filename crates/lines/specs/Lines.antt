-- The lines of a trace file, from its bytes. Assumes nothing.
use Rattle.std.specs.Prelude.{◌≡◌, ℕ, ◌+◌, ◌-◌, ◌<◌, Bool, true, false, cond, not, ◌&&◌, ◌||◌, List, [], ◌∷◌, ◌++◌, length, slice_index, take, drop, Some, None, Option, ◌==◌}
use Rattle.std.specs.Borrow.{Bor}
use Rattle.std.specs.List.{prefix_len}
use Rattle.words.specs.Words.{separates}
use Rattle.lines.specs.declared.LineMode.{LineMode}
use Rattle.lines.specs.declared.LineMode.TheVariants.{Joined, EachLine}

abbrev pub is_lf : ℕ → Bool
is_lf b = b == 10

-- something is in the list
abbrev pub held : {A : Type 0} → List A → Bool
held [] = false
held (x ∷ xs) = true

-- one more byte at the front of the first of some physical lines
abbrev pub longer : ℕ → List (List ℕ) → List (List ℕ)
longer b [] = []
longer b (p ∷ ps) = (b ∷ p) ∷ ps

-- the physical lines: the bytes are cut at each LF, and these are the parts that an LF ends
abbrev pub ended : List ℕ → List (List ℕ)
ended [] = []
ended (b ∷ bs) = cond (is_lf b) ([] ∷ ended bs) (longer b (ended bs))

-- the last piece: what stands after the last LF
abbrev pub piece : List ℕ → List ℕ
piece [] = []
piece (b ∷ bs) = cond (is_lf b || held (ended bs)) (piece bs) (b ∷ bs)

-- only separators; the empty line too
abbrev pub blank : List ℕ → Bool
blank [] = true
blank (b ∷ bs) = separates b && blank bs

-- `[` is the first byte
abbrev pub begins : List ℕ → Bool
begins [] = false
begins (b ∷ bs) = b == 91

-- the next physical line, or else the last piece
abbrev pub up_next : List (List ℕ) → List ℕ → List ℕ
up_next [] f = f
up_next (p ∷ ps) f = p

-- the physical line p, before q, ends its line
abbrev pub ends : List ℕ → List ℕ → Bool
ends p q = blank p || (begins q || blank q)

-- b is the last byte
abbrev pub ends_in : ℕ → List ℕ → Bool
ends_in b [] = false
ends_in b (x ∷ []) = x == b
ends_in b (x ∷ y ∷ ys) = ends_in b (y ∷ ys)

-- without one CR at the end
abbrev pub trimmed : List ℕ → List ℕ
trimmed p = cond (ends_in 13 p) (take (length p - 1) p) p

-- bytes before the first of some lines; no line if there is none, since the bytes then belong to the line that is cut off
abbrev pub onto : List ℕ → List (List ℕ) → List (List ℕ)
onto bs [] = []
onto bs (l ∷ ls) = (bs ++ l) ∷ ls

-- names may hold LFs: a line goes on over physical lines until one ends it
abbrev pub joined_lines : List (List ℕ) → List ℕ → List (List ℕ)
joined_lines [] f = []
joined_lines (p ∷ ps) f = cond (ends p (up_next ps f)) (trimmed p ∷ joined_lines ps f) (onto (p ++ 10 ∷ []) (joined_lines ps f))

-- every LF ends a line, and the last piece is a line too
abbrev pub each_line : List (List ℕ) → List ℕ → List (List ℕ)
each_line ps f = ps ++ cond (held f) (f ∷ []) []

abbrev pub lines_of : LineMode → List ℕ → List (List ℕ)
lines_of Joined bs = joined_lines (ended bs) (piece bs)
lines_of EachLine bs = each_line (ended bs) (piece bs)

-- bytes at the end belong to no line, since no LF ends them
abbrev pub cut_off : LineMode → List ℕ → Bool
cut_off Joined bs = held (piece bs)
cut_off EachLine bs = false

-- how many bytes stand before the first LF, and those bytes: the physical line, or the last piece, at the front
abbrev pub line_len : List ℕ → ℕ
line_len bs = prefix_len (λ b. not (is_lf b)) bs

abbrev pub front : List ℕ → List ℕ
front bs = take (line_len bs) bs

-- the physical line at the front cannot go on from the one before it
abbrev pub opens : List ℕ → Bool
opens bs = begins (front bs) || blank (front bs)

-- at k stands an LF that ends the first line, where no LF before it does; `alone` says that the physical line at the front is blank
abbrev pub ends_at : Bool → List ℕ → ℕ → Bool
ends_at alone s k = is_lf (slice_index s k) && (alone || opens (drop (k + 1) s))

-- the first line of `Joined` ends before the LF at n, or there is none
abbrev pub FirstEnds : List ℕ → Option ℕ → Type 0
FirstEnds bs None = lines_of Joined bs ≡ []
FirstEnds bs (Some n) = (n < length bs) × (lines_of Joined bs ≡ trimmed (take n bs) ∷ lines_of Joined (drop (n + 1) bs))

-- what a cursor has still to give
abbrev pub ahead : LineMode → Bor (List ℕ) → List (List ℕ)
ahead m r = lines_of m r.now
