-- What the code compares identifiers by: a number before a text, then how many digits a number has, then the bytes. Assumes nothing.
use Rattle.std.specs.Prelude.{ℕ, cond, List, length}
use Rattle.version.specs.Grammar.{digit, every}
use Rattle.version.specs.declared.identifier.Ident.{Ident}
use Rattle.version.specs.declared.identifier.Ident.TheVariants.{Number, Text}

-- of the code's identifier
abbrev pub rank : Ident → ℕ × ℕ × List ℕ
rank (Number n t) = (0, n, t.now)
rank (Text t) = (1, 0, t.now)

-- of a field
abbrev pub rank_of : List ℕ → ℕ × ℕ × List ℕ
rank_of t = cond (every digit t) (0, length t, t) (1, 0, t)
