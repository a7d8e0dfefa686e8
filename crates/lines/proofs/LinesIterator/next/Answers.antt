use Rattle.std.proofs.Common.{length, ap, rules}
use Rattle.std.proofs.lemmas.List.{take_rest}
use Rattle.lines.proofs.Cut.{each_cut}
use Rattle.lines.proofs.LinesIterator.next.Goals as goal

pub returns-else-is_empty-clause-steps : goal.returns-else-is_empty-clause-steps
returns-else-is_empty-clause-steps c = rw take_rest (each_cut _ _ _ _ c.in-EachLine.is c.line_feed-end.ensures.value c.if-is_empty.ensures c.min.ensures)

pub returns-else-is_empty-clause-goes : goal.returns-else-is_empty-clause-goes
returns-else-is_empty-clause-goes c =
    let e = ap length (each_cut _ _ _ _ c.in-EachLine.is c.line_feed-end.ensures.value c.if-is_empty.ensures c.min.ensures) in
    rw take_rest (search rules)
