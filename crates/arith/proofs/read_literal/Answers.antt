use Rattle.std.proofs.Common.{arith}
use Rattle.arith.proofs.Steps.{figures_more}
use Rattle.arith.proofs.read_literal.Goals as goal

pub loop-rest-preserved : goal.loop-rest-preserved
loop-rest-preserved c = figures_more c.loop-rest.n _ c.loop-rest.rest.now _ c.loop-rest.invariant (omega arith) (omega arith) (omega arith) (omega (arith, c.saturating_add-n.ensures, c.saturating_mul.ensures, c.from.ensures))
