-- What a fault of a quantifier's name prints. Assumes nothing.
use Rattle.std.specs.Prelude.{ℕ, List, ◌++◌, codes, decimal}
use Rattle.ids.specs.Messages.{number_message}
use Rattle.names.specs.declared.quant.QidFault.{QidFault}
use Rattle.names.specs.declared.quant.QidFault.TheVariants.{Missing, Count}

abbrev pub qid_message : QidFault → List ℕ
qid_message Missing = codes "no name with a count"
qid_message (Count word fault) = codes "word " ++ decimal word ++ codes " is no count: it " ++ number_message fault
