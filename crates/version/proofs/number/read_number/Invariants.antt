use Rattle.std.proofs.Common.{◌≡◌, ◌<◌, ◌^◌, drop}
use Rattle.version.specs.Reader.{value_on}
use Rattle.version.proofs.number.read_number.Given as goal

abbrev pub invariant-loop-b : goal.invariant-loop-b
invariant-loop-b l = (l.value < 2 ^ 64) × (value_on l.value (drop l.b-index l.text) ≡ value_on 0 l.text)
