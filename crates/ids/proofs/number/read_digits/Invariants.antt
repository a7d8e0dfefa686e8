use Rattle.std.proofs.Common.{◌≡◌, ◌+◌, ◌≤◌, ◌<◌, take, drop}
use Rattle.std.specs.List.{prefix_len}
use Rattle.ids.specs.Numbers.{digit, worth}
use Rattle.ids.proofs.number.read_digits.Given as goal

abbrev pub invariant-loop-i : goal.invariant-loop-i
invariant-loop-i l = record {
  within : l.value ≤ l.limit → l.value ≡ worth (take l.i l.ds);
  over : l.limit < l.value → l.limit < worth (take l.i l.ds);
  digits : l.i + prefix_len digit (drop l.i l.ds) ≡ prefix_len digit l.ds;
}
