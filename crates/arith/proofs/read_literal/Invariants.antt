use Rattle.std.proofs.Common.{length}
use Rattle.arith.proofs.Steps.{Figures}
use Rattle.arith.proofs.read_literal.Given as goal

abbrev pub invariant-loop-rest : goal.invariant-loop-rest
invariant-loop-rest l = Figures l.n l.rest l.text

abbrev pub decreases-loop-rest : goal.decreases-loop-rest
decreases-loop-rest l = length l.rest
