use Rattle.std.proofs.Common.{map}
use Rattle.census.proofs.Running.{Running}
use Rattle.census.proofs.count.count_lines.Given as goal

abbrev pub invariant-loop-line : goal.invariant-loop-line
invariant-loop-line l =
    (goal.iterator-loop-line).can_next l.line-iterator
    × (goal.iterator-loop-line).is_finite l.line-iterator
    × Running (map (λ x. x.now) l.yielded) l.found l.initial.bad l.bad
