use Rattle.std.proofs.Common.{length}
use Rattle.arith.specs.Answers.{tallied}
use Rattle.arith.proofs.Steps.{Turns}
use Rattle.arith.proofs.+read_value.Given as goal

abbrev pub decreases-read_value : goal.decreases-read_value
decreases-read_value l = l.depth

abbrev pub invariant-loop-rest : goal.invariant-loop-rest
invariant-loop-rest l = Turns l.depth l.op (tallied l.so_far) l.rest l.text

abbrev pub decreases-loop-rest : goal.decreases-loop-rest
decreases-loop-rest l = length l.rest
