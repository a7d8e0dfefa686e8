-- Words joined by single spaces. A run of words of one line needs no memory of its own: it is a span of the line in which each
-- separator counts as one space, so the joined text is as long as the span. Assumes nothing.
use Rattle.std.specs.Prelude.{◌≡◌, ℕ, false, cond, List, [], ◌∷◌, ◌++◌, map}
use Rattle.std.specs.List.{AllByRecursion}
use Rattle.words.specs.Words.{separates, words_of, broken}
use Rattle.words.specs.declared.joined.Bars.{Bars}
use Rattle.words.specs.declared.joined.Bars.TheVariants.{Bare, Front, Both}

-- the words with a single space between two
abbrev pub unwords : List (List ℕ) → List ℕ
unwords [] = []
unwords (w ∷ []) = w
unwords (w ∷ v ∷ ws) = w ++ 32 ∷ unwords (v ∷ ws)

abbrev pub as_space : ℕ → ℕ
as_space b = cond (separates b) 32 b

-- a span with a space in place of each separator
abbrev pub spaces : List ℕ → List ℕ
spaces s = map as_space s

-- the text that a span stands for: as it is, with a bar before it, or with a bar at both ends
abbrev pub joined_text : Bars → List ℕ → List ℕ
joined_text Bare s = spaces s
joined_text Front s = 124 ∷ spaces s
joined_text Both s = 124 ∷ (spaces s ++ 124 ∷ [])

-- the bars of a front part of a text that does not reach its end
abbrev pub front_bars : Bars → Bars
front_bars Bare = Bare
front_bars Front = Front
front_bars Both = Front

-- what the words of a line are, for every line: no word holds a separator, and the words joined are the line with a space for each
-- separator
pub record WordsApart : Type 0 where
  pub whole : (s : List ℕ) → AllByRecursion (λ w. broken w ≡ false) (words_of s)
  pub back : (s : List ℕ) → unwords (words_of s) ≡ spaces s
