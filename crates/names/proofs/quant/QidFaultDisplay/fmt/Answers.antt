use Rattle.std.proofs.Common.{append_assoc}
use Rattle.names.proofs.quant.QidFaultDisplay.fmt.Goals as goal

pub returns-in-Count-clause-writes : goal.returns-in-Count-clause-writes
returns-in-Count-clause-writes g c = λ p q. rw c.in-Count.is (simp append_assoc (c.write-in-Count.ensures.writes p q))
