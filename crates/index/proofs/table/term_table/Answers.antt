use Rattle.std.proofs.Common.{ℕ, ap}
use Rattle.keyed.specs.Meaning.{Names}
use Rattle.idents.specs.declared.ident.Ident.{Ident}
use Rattle.index.proofs.table.term_table.Goals as goal

pub returns-clause-sound : goal.returns-clause-sound
returns-clause-sound c = (c.new.result.sound, λ i _. ap (λ (m : Names Ident ℕ). m.find i) c.new.ensures.empty)
