-- What a table means after a list of entries. Assumes nothing.
use Rattle.std.specs.Prelude.{ℕ, Bool, cond, List, fold}
use Rattle.keyed.specs.Meaning.{Names, kept, put}
use Rattle.keyed.specs.Slots.{table_room}

module _ {K V : Type 0} (alike : K → K → Bool) (slots : ℕ) where
  -- one entry: without room nothing changes
  abbrev pub entered : Names K V → K × V → Names K V
  entered m e = cond (table_room slots (kept m) e.0) (put alike m e.0 e.1) m

  -- each in turn
  abbrev pub entered_all : Names K V → List (K × V) → Names K V
  entered_all m es = fold entered m es
