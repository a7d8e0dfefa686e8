use Rattle.std.proofs.Common.{◌≡◌, length, take, None, Some, Option, sym, refl, ap, ◌∙◌, subst}
use Rattle.keyed.specs.Slots.{Probing, table_names}
use Rattle.keyed.proofs.Parts.{used-written, unused-written, written_few}
use Rattle.keyed.proofs.Rows.{probing_none, fresh}
use Rattle.keyed.proofs.table.SlotTable.new.Goals as goal

-- None has no other clone
only_none : {A : Type 0} (P : Option A → Type 0) → ((x : A) → P (Some x) → ⊥) → (y : Option A) → P y → y ≡ None
only_none P none None h = refl
only_none P none (Some x) h = absurd (none x h)

pub invariant_of-result : goal.invariant_of-result
invariant_of-result g c =
    let k = g.K.Key in
    let filled = c.fill.ensures.after (only_none _ (λ x h. h)) in
    let used = used-written c.args.slots.now c.fill.new.self c.min-n.result c.min-n.ensures c.fill.ensures.len in
    record { sound = subst (λ ys. Probing k.alike (k.code c.args.seed) ys) (sym (used ∙ filled)) (probing_none (k.laws c.args.seed) _) }

pub returns-clause-empty : goal.returns-clause-empty
returns-clause-empty g c =
    let k = g.K.Key in
    let filled = c.fill.ensures.after (only_none _ (λ x h. h)) in
    let used = used-written c.args.slots.now c.fill.new.self c.min-n.result c.min-n.ensures c.fill.ensures.len in
    ap (table_names k.alike) (used ∙ filled) ∙ fresh (k.laws c.args.seed) (length (take c.min-n.result c.args.slots.now))

pub returns-clause-size : goal.returns-clause-size
returns-clause-size g c =
    let used = used-written c.args.slots.now c.fill.new.self c.min-n.result c.min-n.ensures c.fill.ensures.len in
    ap length used ∙ written_few c.args.slots.now c.fill.new.self c.min-n.result c.min-n.ensures c.fill.ensures.len

pub returns-clause-beyond : goal.returns-clause-beyond
returns-clause-beyond g c = unused-written c.args.slots.now c.fill.new.self c.min-n.result c.min-n.ensures c.fill.ensures.len
