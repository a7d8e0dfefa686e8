use Rattle.bitvec.proofs.Digits.{Reading}
use Rattle.bitvec.proofs.Base.read.Given as goal

abbrev pub invariant-loop-b : goal.invariant-loop-b
invariant-loop-b l = Reading l.self l.value l.b-index l.digits
