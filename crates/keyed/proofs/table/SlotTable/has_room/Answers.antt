use Rattle.std.proofs.Common.{sym, ◌∙◌, subst}
use Rattle.keyed.specs.Slots.{Probed}
use Rattle.keyed.proofs.Rows.{probed_room}
use Rattle.keyed.proofs.table.SlotTable.has_room.Goals as goal

pub returns : goal.returns
returns g c =
    let k = g.K.Key in
    let t = c.args.self.now in
    let ends = subst (λ ys. Probed k.alike (k.code t.seed) ys c.args.key c.probe.result) c.used.ensures.value c.probe.ensures.ends in
    c.is_some.ensures ∙ sym (probed_room (k.laws t.seed) t.sound c.args.key c.probe.result ends)
