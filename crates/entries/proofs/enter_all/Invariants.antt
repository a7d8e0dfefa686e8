use Rattle.std.proofs.Common.{◌≡◌}
use Rattle.keyed.specs.Meaning.{nothing}
use Rattle.entries.proofs.Running.{Running}
use Rattle.entries.proofs.enter_all.Given as goal

abbrev pub invariant-loop-entry : goal.invariant-loop-entry
invariant-loop-entry g l =
    let t = g.I.TermIdToIdxMap in
    (t.sound l.initial.index → t.sound l.index)
    × (t.size l.index ≡ t.size l.initial.index)
    × (t.sound l.initial.index → t.means l.initial.index ≡ nothing → Running t.roomy (t.size l.initial.index) l.fn.entries l.entry-items l.entry-index (t.means l.index))
