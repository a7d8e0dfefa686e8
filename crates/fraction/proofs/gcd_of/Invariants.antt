use Rattle.std.proofs.Common.{◌≡◌}
use Rattle.fraction.specs.Divisors.{gcd}
use Rattle.fraction.proofs.gcd_of.Given as goal

abbrev pub invariant-loop-b : goal.invariant-loop-b
invariant-loop-b l = gcd l.a l.b ≡ gcd l.x l.y

abbrev pub decreases-loop-b : goal.decreases-loop-b
decreases-loop-b l = l.b
