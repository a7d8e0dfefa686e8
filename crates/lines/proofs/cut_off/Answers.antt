use Rattle.std.proofs.Common.{arith}
use Rattle.lines.proofs.Cut.{piece-held, ends_in-with}
use Rattle.lines.proofs.cut_off.Goals as goal

pub returns-then-not-is_empty : goal.returns-then-not-is_empty
returns-then-not-is_empty c =
    let h = piece-held c.args.bytes.now in
    let e = ends_in-with 10 c.args.bytes.now in
    grind arith
