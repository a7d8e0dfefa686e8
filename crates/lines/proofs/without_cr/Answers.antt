use Rattle.std.proofs.Common.{arith}
use Rattle.lines.proofs.Cut.{ends_in-tail}
use Rattle.lines.proofs.without_cr.Goals as goal

pub returns : goal.returns
returns c =
    let e = ends_in-tail 13 c.args.line.now in
    grind arith
