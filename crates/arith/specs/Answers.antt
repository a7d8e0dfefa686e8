-- The code's answers, as the definitions have them. Assumes nothing.
use Rattle.std.specs.Prelude.{ℕ, List, Some, None, Ok, Err, Option, Result}
use Rattle.std.specs.Borrow.{Bor}
use Rattle.std.specs.Option.{option_map}
use Rattle.fraction.specs.declared.terms.Fraction.{Fraction}
use Rattle.fraction.specs.Ratios.{Ratio}
use Rattle.fraction.specs.Fractions.{ratio}
use Rattle.arith.specs.declared.Folded.{Folded}
use Rattle.arith.specs.declared.Reading.{Reading}
use Rattle.arith.specs.declared.ValueFault.{ValueFault}
use Rattle.words.specs.Joined.{spaces}
use Rattle.arith.specs.Values.{Read, Tally}

abbrev pub answered : Result Fraction ValueFault → Result Ratio ValueFault
answered (Ok f) = Ok (ratio f)
answered (Err e) = Err e

-- a value and the text after it, each separator in it a space
abbrev pub read_in : Result Reading ValueFault → Read
read_in (Ok p) = Ok (ratio p.value, spaces p.rest.now)
read_in (Err e) = Err e

-- a text in two parts
abbrev pub cut_in : Option (Bor (List ℕ) × Bor (List ℕ)) → Option (List ℕ × List ℕ)
cut_in None = None
cut_in (Some p) = Some (spaces p.0.now, spaces p.1.now)

abbrev pub tallied : Folded → Tally
tallied f = record { number = f.count; result = option_map ratio f.value }

abbrev pub folds : Result Folded ValueFault → Result Tally ValueFault
folds (Ok f) = Ok (tallied f)
folds (Err e) = Err e
