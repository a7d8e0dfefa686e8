-- The slot table meets the laws of an index, which the trait's member cites. Assumes nothing.
use Rattle.std.specs.Prelude.{ℕ}
use Rattle.std.proofs.Common.{arith}
use Rattle.std.proofs.lemmas.Grind.{common_steps}
use Rattle.keys.specs.declared.key.Key.{Ghosts}
use Rattle.keyed.specs.declared.table.SlotTable.{SlotTable}
use Rattle.keyed.specs.Meaning.{IndexLaws}
use Rattle.keyed.specs.Tables.{used, table_means}
use Rattle.keyed.proofs.Makes.{table_finite}
use Rattle.idents.specs.declared.ident.Ident.{Ident}
use Rattle.idents.specs.Idents.{same_ident, proper_ident, ident_code, ident_laws}
use Rattle.index.specs.TermTables.{ident_room, TermTableSound}

pub term_table_laws : {key : Ghosts Ident} → IndexLaws {Self = SlotTable Ident ℕ key} same_ident proper_ident (table_means same_ident) (λ n. n) ident_room TermTableSound
term_table_laws = record {
  counted = λ t ok. table_finite same_ident (ident_code t.seed) proper_ident (ident_laws t.seed) (used t.slots.now) ok.0 ok.1;
  held_has_room = λ size m i fin h. grind (arith, common_steps, fin.fit i);
  spare_has_room = λ size m i fin fits few. grind (arith, common_steps);
  improper_no_room = λ size m i fin bad. grind (arith, common_steps);
}
