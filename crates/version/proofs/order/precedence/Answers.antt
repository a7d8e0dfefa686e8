use Rattle.std.proofs.Common.{rules}
use Rattle.version.proofs.Whole.{tells_precedence_same}
use Rattle.version.proofs.order.precedence.Goals as goal

pub returns-clause-tells : goal.returns-clause-tells
returns-clause-tells c = tells_precedence_same c.args.a.now c.args.b.now _ (search rules)
