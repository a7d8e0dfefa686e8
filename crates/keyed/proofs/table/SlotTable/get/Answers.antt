use Rattle.std.proofs.Common.{◌≡◌, None, get_or, sym, ap, ◌∙◌, rules}
use Rattle.std.proofs.lemmas.List.{get_or_default}
use Rattle.keyed.specs.Slots.{value_in, used}
use Rattle.keyed.proofs.Probe.{ends-along, through-along}
use Rattle.keyed.proofs.Rows.{found, not_found}
use Rattle.keyed.proofs.table.SlotTable.get.Goals as goal

pub returns-in_err-at : goal.returns-in_err-at
returns-in_err-at g c = c.from_residual.ensures ∙ sym (not_found (through-along c.used-slots.ensures.value c.in_err-at.ensures.ends))

pub returns : goal.returns
returns g c =
    let t = c.args.self.now in
    let at = c.in_ok-at.at in
    let slot = c.index-slots-at.result in
    let same = c.used-slots.ensures.value in
    let value : c.map.result ≡ value_in slot = search rules in
    let ends = ends-along same c.in_ok-at.ensures.ends in
    let read = c.index-slots-at.is ∙ ap (λ ys. get_or ys at slot) same ∙ get_or_default (used t.slots.now) at slot None ends.within in
    value ∙ ap value_in read ∙ sym (found (g.K.Key.laws t.seed) t.sound ends)
