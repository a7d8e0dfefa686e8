-- The words of a line. Each single space, tab, LF, FF or CR separates two words, so words may be empty,
-- and an empty line has one empty word. Assumes nothing.
use Rattle.std.specs.Prelude.{ℕ, ◌+◌, Bool, false, cond, ◌&&◌, ◌||◌, List, [], ◌∷◌, length, take, Some, None, Option, ◌==◌, nat_le, nat_lt}
use Rattle.std.specs.Borrow.{Bor}
use Rattle.std.specs.List.{slice_split, onto_first}

-- tab, LF, FF, CR, space
abbrev pub separates : ℕ → Bool
separates b = b == 32 || (b == 9 || (b == 10 || (b == 12 || b == 13)))

-- the pieces between the bytes that pass a test; a piece may be empty, and there is always one
abbrev pub split_by : (ℕ → Bool) → List ℕ → List (List ℕ)
split_by p s = slice_split p s

-- one more byte at the front of the first piece
abbrev pub longer : ℕ → List (List ℕ) → List (List ℕ)
longer b ws = onto_first b ws

-- the words of a line, in order; word 0 is its kind
abbrev pub words_of : List ℕ → List (List ℕ)
words_of s = split_by separates s

-- what a cursor has still to give: nothing once the last word is given
abbrev pub ahead : Option (Bor (List ℕ)) → List (List ℕ)
ahead None = []
ahead (Some r) = words_of r.now

-- the bytes that are left, and one more for the end of the line: never fewer than the words ahead
abbrev pub size_left : Option (Bor (List ℕ)) → ℕ
size_left None = 0
size_left (Some r) = length r.now + 1

abbrev pub first_of : List (List ℕ) → Option (List ℕ)
first_of [] = None
first_of (w ∷ ws) = Some w

abbrev pub rest_of : List (List ℕ) → List (List ℕ)
rest_of [] = []
rest_of (w ∷ ws) = ws

-- the first k words, where there are as many and k is not 0
abbrev pub front_of : ℕ → List (List ℕ) → Option (List (List ℕ))
front_of k ws = cond (nat_lt 0 k && nat_le k (length ws)) (Some (take k ws)) None

-- a line of more than 65,536 bytes is too long to be read
abbrev pub too_long : List ℕ → Bool
too_long s = nat_lt 65536 (length s)

-- some byte separates
abbrev pub broken : List ℕ → Bool
broken [] = false
broken (b ∷ bs) = separates b || broken bs
