use Rattle.std.proofs.Common.{sym}
use Rattle.index.proofs.table.SlotTableIdentU32TermIdToIdxMap.room.Goals as goal

pub returns-then-is_proper-clause-value : goal.returns-then-is_proper-clause-value
returns-then-is_proper-clause-value c _ = rw (sym c.if-is_proper.ensures) c.has_room.ensures
