use Rattle.std.proofs.Common.{arith, rules}
use Rattle.std.proofs.lemmas.List.{map_push, length-map}
use Rattle.std.proofs.lemmas.Iterator.Consumers.{YieldsList-from_first, YieldsList-turn}
use Rattle.lines.specs.Lines.{lines_of, ahead}
use Rattle.census.proofs.Running.{running_start, running_more, running_small}
use Rattle.census.proofs.count.count_lines.Goals as goal

pub loop-line-init : goal.loop-line-init
loop-line-init c = search (rules, running_start)

pub note-requires : goal.note-requires
note-requires c =
    let turn = YieldsList-turn (YieldsList-from_first (λ x. x.now) (λ s. ahead s.mode s.left) (lines_of c.args.mode c.args.bytes.now) cc) c.loop-line.yielded _ c.loop-line.yielded_by c.next.result c.next.new.self c.in-Some.line c.in-Some.is c.next.ensures.steps in
    running_small _ _ _ _ c.loop-line.invariant.2 (simp length-map (omega (arith, c.of-line-items.ensures.cut.few c.args.mode c.args.bytes.now)))

pub loop-line-preserved : goal.loop-line-preserved
loop-line-preserved c = (tt, tt, simp map_push (running_more _ _ _ _ _ _ _ c.loop-line.invariant.2 c.note.ensures))
