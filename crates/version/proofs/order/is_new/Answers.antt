use Rattle.std.proofs.Common.{rules}
use Rattle.version.proofs.Whole.{tells_newness_same}
use Rattle.version.proofs.order.is_new.Goals as goal

pub returns-clause-tells : goal.returns-clause-tells
returns-clause-tells c = tells_newness_same c.args.text.now _ (search rules)
