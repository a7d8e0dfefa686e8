-- What a fault prints, after the word or the text that it is about. The limit told is that of small numbers, whose faults alone are
-- printed. Assumes nothing.
use Rattle.std.specs.Prelude.{ℕ, List, ◌++◌, codes, decimal}
use Rattle.ids.specs.declared.number.NumberFault.{NumberFault}
use Rattle.ids.specs.declared.number.NumberFault.TheVariants.{Empty, NotDigit, TooLarge}
use Rattle.ids.specs.declared.id.IdFault.{IdFault}
use Rattle.ids.specs.declared.id.IdFault.TheVariants.{NoHash, Number}

abbrev pub number_message : NumberFault → List ℕ
number_message Empty = codes "has no digit"
number_message (NotDigit place) = codes "has a byte that is no digit at place " ++ decimal place
number_message TooLarge = codes "is over 4294967294"

abbrev pub id_message : IdFault → List ℕ
id_message NoHash = codes "has no `#`"
id_message (Number fault) = codes "has a number after `#` that " ++ number_message fault
