-- What the lines of a file are, said of the file's bytes at each LF. Assumes nothing.
use Rattle.std.specs.Prelude.{◌≡◌, ℕ, ◌≤◌, Bool, true, false, cond, not, ◌&&◌, ◌||◌, List, [], ◌∷◌, ◌++◌, length}
use Rattle.std.specs.List.{AllByRecursion}
use Rattle.lines.specs.declared.LineMode.{LineMode}
use Rattle.lines.specs.declared.LineMode.TheVariants.{Joined, EachLine}
use Rattle.lines.specs.Lines.{is_lf, held, piece, blank, opens, ends_in, trimmed, lines_of, cut_off}

-- bytes that do not end in an LF
abbrev pub unended : List ℕ → Bool
unended bs = held bs && not (ends_in 10 bs)

-- each line and an LF after it
abbrev pub written : List (List ℕ) → List ℕ
written [] = []
written (l ∷ ls) = l ++ 10 ∷ written ls

-- no LF in it
abbrev pub Plain : List ℕ → Type 0
Plain bs = AllByRecursion (λ b. is_lf b ≡ false) bs

-- an LF with xs before it and ys after it ends a line: the physical line before it is blank, or the one after it is blank or begins with `[`
abbrev pub ends_here : List ℕ → List ℕ → Bool
ends_here xs ys = blank (piece xs) || opens ys

-- no LF in l ends a line, where ys stands after l
abbrev pub GoesOn : List ℕ → List ℕ → Type 0
GoesOn l ys = (xs zs : List ℕ) → l ≡ xs ++ 10 ∷ zs → ends_here xs (zs ++ ys) ≡ false

-- the bytes of a line, the LF that ends it, and what stands after it
pub record OneLine (bs line l after : List ℕ) : Type 0 where
  pub cut_at : bs ≡ l ++ 10 ∷ after
  pub no_cr : line ≡ trimmed l
  pub goes_on : GoesOn l (10 ∷ after)
  pub line_ends : ends_here l after ≡ true

-- the bytes, cut at those LFs that end a line and at no other, are these lines, and what stands after the last such LF is left out
abbrev pub CutInto : List ℕ → List (List ℕ) → Type 0
CutInto bs [] = GoesOn bs []
CutInto bs (line ∷ ls) = (l : List ℕ) × (after : List ℕ) × OneLine bs line l after × CutInto after ls

pub record LinesStand : Type 0 where
  -- the lines of `EachLine` are the bytes, but for an LF that may be missing at the end; and none holds an LF
  pub each_written : (bs : List ℕ) → written (lines_of EachLine bs) ≡ bs ++ cond (unended bs) (10 ∷ []) []
  pub each_plain : (bs : List ℕ) → AllByRecursion Plain (lines_of EachLine bs)
  -- the lines of `Joined`, LF by LF
  pub joined : (bs : List ℕ) → CutInto bs (lines_of Joined bs)
  -- what is cut off is told by the last byte
  pub cut : (bs : List ℕ) → cut_off Joined bs ≡ unended bs
  -- at most as many lines as bytes
  pub few : (m : LineMode) (bs : List ℕ) → length (lines_of m bs) ≤ length bs
