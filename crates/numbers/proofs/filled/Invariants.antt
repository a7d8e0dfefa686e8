use Rattle.std.proofs.Common.{◌≡◌, take}
use Rattle.keyed.specs.Tables.{unused, table_size, table_means}
use Rattle.numbers.specs.Filled.{entered_all}
use Rattle.numbers.proofs.filled.Given as goal

-- the table means what the entries so far make of it
abbrev pub invariant-loop-key : goal.invariant-loop-key
invariant-loop-key g l =
    let alike = g.K.Key.alike in
    let s = l.initial.table in
    let t = l.table in
    record {
      fixed : table_size t ≡ table_size s;
      means : table_means alike t ≡ entered_all alike (table_size s) (table_means alike s) (take l.key-index l.entries);
      beyond : unused t.slots.now ≡ unused s.slots.now;
      lent : t.slots.ghost_name ≡ s.slots.ghost_name;
    }
