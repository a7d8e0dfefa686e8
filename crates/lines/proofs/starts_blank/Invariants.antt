use Rattle.std.proofs.Common.{◌≡◌, drop}
use Rattle.std.specs.List.{find}
use Rattle.lines.specs.Lines.{blank, front}
use Rattle.lines.proofs.Blank.{stops, told}
use Rattle.lines.proofs.starts_blank.Given as goal

abbrev pub invariant-loop-b : goal.invariant-loop-b
invariant-loop-b l = told (find stops (drop l.b-index l.s)) ≡ blank (front l.s)
