-- How a joined name is written piece by piece; only the reader's own steps speak of this. Assumes nothing.
use Rattle.std.specs.Prelude.{ℕ, zero, suc, List, [], ◌∷◌, ◌++◌}
use Rattle.words.specs.Laid.{laid}

-- a text written over a memory from a place on, as far as it goes
abbrev pub laid_at : ℕ → List ℕ → List ℕ → List ℕ
laid_at zero xs m = laid xs m
laid_at (suc n) xs [] = []
laid_at (suc n) xs (y ∷ m) = y ∷ laid_at n xs m

-- what is still to be written behind the words so far: each word with a space before it, and the bar
abbrev pub tail : List (List ℕ) → List ℕ
tail [] = 124 ∷ []
tail (w ∷ ws) = 32 ∷ (w ++ tail ws)
