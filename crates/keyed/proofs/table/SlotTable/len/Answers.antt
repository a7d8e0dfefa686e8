use Rattle.std.proofs.Common.{count_by, is_some, sym, ap, ◌∙◌}
use Rattle.std.proofs.lemmas.Bool.{false≢true}
use Rattle.keyed.specs.Slots.{used}
use Rattle.keyed.specs.Meaning.{every_key}
use Rattle.keyed.proofs.Makes.{keys_held, table_finite}
use Rattle.keyed.proofs.table.SlotTable.len.Goals as goal

pub returns : goal.returns
returns g c =
    let k = g.K.Key in
    let t = c.args.self.now in
    record {
      value = c.count.ensures ∙ ap (count_by (λ x. is_some x)) c.used.ensures.value ∙ sym (keys_held (used t.slots.now));
      counted = table_finite k.alike (k.code t.seed) every_key (k.laws t.seed) (used t.slots.now) t.sound (λ q bad. absurd (false≢true (sym bad)));
    }
