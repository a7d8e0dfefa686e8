use Rattle.std.proofs.Common.{◌-◌, length}
use Rattle.lines.proofs.Joining.{Searched}
use Rattle.lines.proofs.joined_end.Given as goal

abbrev pub invariant-loop-from : goal.invariant-loop-from
invariant-loop-from l = Searched l.alone l.s l.from

abbrev pub decreases-loop-from : goal.decreases-loop-from
decreases-loop-from l = length l.s - l.from
