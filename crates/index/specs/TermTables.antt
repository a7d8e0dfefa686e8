-- The slot table as an index. Assumes nothing.
use Rattle.std.specs.Prelude.{◌≡◌, ℕ, Bool, false, ◌&&◌, None}
use Rattle.keys.specs.declared.key.Key.{Ghosts}
use Rattle.keyed.specs.declared.table.SlotTable.{SlotTable}
use Rattle.keyed.specs.Meaning.{Names, Kept}
use Rattle.keyed.specs.Slots.{table_room}
use Rattle.keyed.specs.Tables.{table_means, TableSound}
use Rattle.idents.specs.declared.ident.Ident.{Ident}
use Rattle.idents.specs.Idents.{same_ident, proper_ident, ident_code}

-- among so many slots a proper identifier has room that is held already, and each while fewer are held than there are slots
abbrev pub ident_room : ℕ → Kept Ident → Ident → Bool
ident_room size m i = proper_ident i && table_room size m i

-- no improper identifier is found
abbrev pub NoneImproper : Names Ident ℕ → Type 0
NoneImproper m = (i : Ident) → proper_ident i ≡ false → m.find i ≡ None

-- what every fresh table of identifiers has and every call keeps
abbrev pub TermTableSound : {key : Ghosts Ident} → SlotTable Ident ℕ key → Type 0
TermTableSound t = TableSound same_ident ident_code t × NoneImproper (table_means same_ident t)
