use Rattle.arith.proofs.Sound.{arith_sound, arith_complete}
use Rattle.arith.proofs.arith_stands.Goals as goal

pub returns-clause-laws : goal.returns-clause-laws
returns-clause-laws c = record { sound = arith_sound; complete = arith_complete }
