use Rattle.std.proofs.Common.{◌≡◌, ℕ, List, length, Option, sym}
use Rattle.std.specs.Borrow.{MutBor}
use native.Mathlib.Nat.{ℕ_set}
use Rattle.keyed.specs.Refusals.{no_room}
use Rattle.front.specs.declared.front.Front.{Front}
use Rattle.front.proofs.Layers.{entered-low, entered-high}
use Rattle.front.proofs.front.FrontTermIdToIdxMap.register_term.Goals as goal

-- the fact that the places are 4,096 has one proof
same_front : {I : Type 0} (o : MutBor (List (Option ℕ))) (a b : MutBor I) (p q : length o.now ≡ 4096) → a ≡ b → ◌≡◌ {A = Front I} (record { orders = o; below = a; long = p }) (record { orders = o; below = b; long = q })
same_front o a b p q same j = record { orders = o; below = same j; long = ℕ_set (length o.now) 4096 p q j }

pub returns-then-is_frontal-clause-entered : goal.returns-then-is_frontal-clause-entered
returns-then-is_frontal-clause-entered g c =
    let t = g.I.TermIdToIdxMap in
    let s = c.args.self.now in
    λ ok. entered-low s.orders.now (t.means s.below.now) c.args.id c.args.number t.roomy (t.size s.below.now) no_room (sym c.if-is_frontal.ensures) s.long (cc) (cc)

pub returns-else-is_frontal-clause-entered : goal.returns-else-is_frontal-clause-entered
returns-else-is_frontal-clause-entered g c =
    let t = g.I.TermIdToIdxMap in
    let s = c.args.self.now in
    λ ok. entered-high s.orders.now t.roomy (t.size s.below.now) ok.1 (sym c.if-is_frontal.ensures) (c.register_term.ensures.entered ok.0)

pub returns-else-is_frontal-clause-refused : goal.returns-else-is_frontal-clause-refused
returns-else-is_frontal-clause-refused g c =
    let s = c.args.self.now in
    λ e. same_front s.orders _ s.below _ s.long (λ j. record { ref_ptr = s.below.ref_ptr; ghost_name = s.below.ghost_name; now = c.register_term.ensures.refused e j })
