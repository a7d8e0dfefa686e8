-- What a table in lent slots means. Assumes nothing.
use Rattle.std.specs.Prelude.{ℕ, Bool, length}
use Rattle.keys.specs.declared.key.Key.{Ghosts}
use Rattle.keyed.specs.declared.table.SlotTable.{SlotTable}
use Rattle.keyed.specs.Meaning.{Names}
use Rattle.keyed.specs.Slots.{table_names, room_in, Probing}
pub use Rattle.keyed.specs.Slots.{used, unused}

module _ {K V : Type 0} {key : Ghosts K} where
  -- the number of slots used
  abbrev pub table_size : SlotTable K V key → ℕ
  table_size t = length (used t.slots.now)

  -- the value of each key, and how many keys are held
  abbrev pub table_means : (K → K → Bool) → SlotTable K V key → Names K V
  table_means alike t = table_names alike (used t.slots.now)

  -- what probes rely on
  abbrev pub TableSound : (K → K → Bool) → (ℕ → K → ℕ) → SlotTable K V key → Type 0
  TableSound alike code t = Probing alike (code t.seed) (used t.slots.now)

  -- every table is sound: its type says so
  pub table_sound : (t : SlotTable K V key) → TableSound key.alike key.code t
  table_sound t = t.sound

  -- whether a key has room
  abbrev pub room_for : (K → K → Bool) → SlotTable K V key → K → Bool
  room_for alike t k = room_in alike (used t.slots.now) k
