use Rattle.std.proofs.Common.{◌+◌, ◌*◌, ◌-◌, get_or, drop, arith}
use Rattle.std.proofs.lemmas.Bool.Decides.{nat_tests}
use Rattle.version.proofs.Values.{value_more, value_grows}
use Rattle.version.proofs.number.read_number.Goals as goal

pub returns-in_err-checked_mul : goal.returns-in_err-checked_mul
returns-in_err-checked_mul c =
    let t = c.args.text.now in
    let i = c.loop-b.b-index in
    let more = value_more c.loop-b.value t i c.loop-b-test.true in
    let grows = value_grows (c.loop-b.value * 10 + (get_or t i 0 - 48)) (drop (i + 1) t) in
    grind (arith, nat_tests)

pub returns-in_err-value : goal.returns-in_err-value
returns-in_err-value c =
    let t = c.args.text.now in
    let i = c.loop-b.b-index in
    let more = value_more c.loop-b.value t i c.loop-b-test.true in
    let grows = value_grows (c.loop-b.value * 10 + (get_or t i 0 - 48)) (drop (i + 1) t) in
    grind (arith, nat_tests)
