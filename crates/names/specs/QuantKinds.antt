-- Z3 names a quantifier that has no name of its own `name!number`. If the second of the pieces between `!` signs reads as a number
-- below 2^64, the quantifier has the first piece and that number; otherwise the whole name. Assumes nothing.
use Rattle.std.specs.Prelude.{ℕ, Bool, List, [], ◌∷◌, Ok, Err, Result, ◌==◌}
use Rattle.ids.specs.declared.number.NumberFault.{NumberFault}
use Rattle.ids.specs.Numbers.{number_up_to}
use Rattle.words.specs.Words.{split_by}
use Rattle.words.specs.Joined.{joined_text}
use Rattle.names.specs.declared.kind.QuantKindParse.{QuantKindParse}
use Rattle.names.specs.declared.kind.QuantKindParse.TheVariants.{Named, Unnamed}

-- an exclamation mark
abbrev pub bang : ℕ → Bool
bang b = b == 33

pub data QuantName : Type 0 where
  by_name : List ℕ → QuantName
  by_number : List ℕ → ℕ → QuantName

-- t is the whole name, p its first piece
abbrev pub if_number : List ℕ → List ℕ → Result ℕ NumberFault → QuantName
if_number t p (Ok n) = by_number p n
if_number t p (Err f) = by_name t

abbrev pub of_pieces : List ℕ → List (List ℕ) → QuantName
of_pieces t [] = by_name t
of_pieces t (p ∷ []) = by_name t
of_pieces t (p ∷ q ∷ ps) = if_number t p (number_up_to 18446744073709551615 q)

abbrev pub quant_kind : List ℕ → QuantName
quant_kind t = of_pieces t (split_by bang t)

abbrev pub kind_said : QuantKindParse → QuantName
kind_said (Named n) = by_name (joined_text n.bars n.span.now)
kind_said (Unnamed n k) = by_number (joined_text n.bars n.span.now) k
