use Rattle.std.proofs.Common.{◌∙◌, arith, rules}
use Rattle.keyed.specs.Refusals.{no_room}
use Rattle.entries.proofs.Once.{told-once}
use Rattle.entries.proofs.Running.{more}
use Rattle.entries.proofs.Spare.{all_taken}
use Rattle.entries.proofs.enter_all.Goals as goal

pub loop-entry-preserved : goal.loop-entry-preserved
loop-entry-preserved g c =
    let t = g.I.TermIdToIdxMap in
    let s = c.loop-entry.index in
    let inv = c.loop-entry.invariant in (
      (λ ok. c.register_term.ensures.keeps (inv.0 ok)),
      c.register_term.ensures.fixed ∙ inv.1,
      (λ ok none.
          let did = rw inv.1 at (c.register_term.ensures.entered (inv.0 ok)) in
          more t.roomy (t.size c.args.index.now) c.args.entries.now c.loop-entry.entry-items c.loop-entry.entry-index (omega arith) (t.means s) (t.means c.register_term.new.self) no_room c.register_term.result did c.is_ok-entry.result c.is_ok-entry.ensures.value
          (t.laws.counted s (inv.0 ok)) (inv.2 ok none)),
    )

pub returns-clause-spare : goal.returns-clause-spare
returns-clause-spare g c =
    let t = g.I.TermIdToIdxMap in
    λ ok none. all_taken t.laws (t.size c.args.index.now) c.args.entries.now c.loop-entry.entry-items (t.means c.loop-entry.index) (search rules)

pub returns-clause-once : goal.returns-clause-once
returns-clause-once g c = told-once
