use Rattle.std.proofs.Common.{sym}
use Rattle.index.proofs.Improper.{none_after}
use Rattle.index.proofs.table.SlotTableIdentU32TermIdToIdxMap.register_term.Goals as goal

pub returns-then-is_proper-clause-keeps : goal.returns-then-is_proper-clause-keeps
returns-then-is_proper-clause-keeps c ok = (c.put.new.self.sound, none_after (sym c.if-is_proper.ensures) c.put.ensures.entered ok.1)

pub returns-then-is_proper-clause-entered : goal.returns-then-is_proper-clause-entered
returns-then-is_proper-clause-entered c _ = rw (sym c.if-is_proper.ensures) c.put.ensures.entered
