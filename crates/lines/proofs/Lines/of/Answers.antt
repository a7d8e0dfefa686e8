use Rattle.std.proofs.Common.{refl}
use Rattle.lines.proofs.Standing.{lines_stand}
use Rattle.lines.proofs.Lines.of.Goals as goal

pub returns : goal.returns
returns c = record { lines = refl; cut = lines_stand }
