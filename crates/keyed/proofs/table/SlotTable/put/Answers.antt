use Rattle.std.proofs.Common.{◌≡◌, ◌<◌, length, None, Some, Ok, length-set, sym, ap, ◌∙◌, subst, rules}
use Rattle.std.proofs.lemmas.List.{get_or_default}
use Rattle.keyed.specs.Refusals.{no_room}
use Rattle.keyed.specs.Slots.{Probing, value_in, table_names, room_in, used}
use Rattle.keyed.specs.Meaning.{Entered}
use Rattle.keyed.proofs.Entries.{refused as not_taken, taken}
use Rattle.keyed.proofs.Parts.{used_at, used-set, unused-set}
use Rattle.keyed.proofs.Probe.{ends-along, through-along}
use Rattle.keyed.proofs.Rows.{found, has_room, stored, probing_set, full_no_room}
use Rattle.keyed.proofs.table.SlotTable.put.Goals as goal

pub returns-in_default-clause-entered : goal.returns-in_default-clause-entered
returns-in_default-clause-entered g c = not_taken (full_no_room (through-along c.used.ensures.value c.in_default.ensures.ends))

pub offset_bounds-self-at : goal.offset_bounds-self-at
offset_bounds-self-at g c = let fits = c.used.type_inv.1 in let within : c.in-Some.at < length c.used.result.now = c.in-Some.ensures.within in search rules

pub offset_bounds-self-at-2 : goal.offset_bounds-self-at-2
offset_bounds-self-at-2 g c = let fits = c.used.type_inv.1 in let within : c.in-Some.at < length c.used.result.now = c.in-Some.ensures.within in search rules

pub invariant_of-self : goal.invariant_of-self
invariant_of-self g c =
    let k = g.K.Key in
    let t = c.args.self.now in
    let ends = ends-along c.used.ensures.value c.in-Some.ensures.ends in
    let after = used-set t.slots.now c.in-Some.at (Some (c.args.key, c.args.value)) ends.within in
    record { sound = subst (λ ys. Probing k.alike (k.code t.seed) ys) (sym after) (probing_set (k.laws t.seed) t.sound ends c.args.value) }

pub returns-clause-fixed : goal.returns-clause-fixed
returns-clause-fixed g c =
    let t = c.args.self.now in
    let ends = ends-along c.used.ensures.value c.in-Some.ensures.ends in
    ap length (used-set t.slots.now c.in-Some.at (Some (c.args.key, c.args.value)) ends.within) ∙ length-set (used t.slots.now) c.in-Some.at (Some (c.args.key, c.args.value))

pub returns-clause-entered : goal.returns-clause-entered
returns-clause-entered g c =
    let alike = g.K.Key.alike in
    let t = c.args.self.now in
    let law = g.K.Key.laws t.seed in
    let xs = t.slots.now in
    let at = c.in-Some.at in
    let slot = c.index-self-at.result in
    let ends = ends-along c.used.ensures.value c.in-Some.ensures.ends in
    let after = used-set xs at (Some (c.args.key, c.args.value)) ends.within in
    let old : c.map-old.result ≡ value_in slot = search rules in
    let read = c.index-self-at.is ∙ used_at xs at slot ends.within ∙ get_or_default (used xs) at slot None ends.within in
    subst (λ ys. Entered alike (room_in alike (used xs) c.args.key) c.args.key c.args.value no_room (table_names alike (used xs)) (table_names alike ys) (Ok c.map-old.result)) (sym after)
    (taken (has_room law t.sound ends) (old ∙ ap value_in read ∙ sym (found law t.sound ends)) (stored law t.sound ends c.args.value))

pub returns-clause-beyond : goal.returns-clause-beyond
returns-clause-beyond g c =
    let ends = ends-along c.used.ensures.value c.in-Some.ensures.ends in
    unused-set c.args.self.now.slots.now c.in-Some.at (Some (c.args.key, c.args.value)) ends.within
