-- What a cause prints, after the word that it is about. Assumes nothing.
use Rattle.std.specs.Prelude.{ℕ, List, codes}
use Rattle.ids.specs.Messages.{id_message}
use Rattle.census.specs.declared.record.IdCause.{IdCause}
use Rattle.census.specs.declared.record.IdCause.TheVariants.{Missing, Fault}

abbrev pub cause_message : IdCause → List ℕ
cause_message Missing = codes "is missing"
cause_message (Fault fault) = id_message fault
