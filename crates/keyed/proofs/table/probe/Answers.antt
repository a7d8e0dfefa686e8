use Rattle.std.proofs.Common.{◌≡◌, ◌%◌, length, sym, ap, ◌∙◌, arith}
use Rattle.keyed.specs.Slots.{start}
use Rattle.keyed.proofs.Probe.{later, ending}
use Rattle.keyed.proofs.table.probe.Goals as goal

pub returns-in-Some-clause-ends : goal.returns-in-Some-clause-ends
returns-in-Some-clause-ends g c =
    let k = g.K.Key in
    let xs = c.args.slots.now in
    let begins : c.in_ok-start.start ≡ start (k.code c.args.seed) (length xs) c.args.key = c.in_ok-start.ensures.1 ∙ ap (λ z. z % length xs) c.hash_code.ensures in
    later k.alike (k.code c.args.seed) xs c.args.key c.in_ok-start.start begins (omega arith) c.split_at.result.0.now c.split_at.result.1.now c.split_at.ensures.front c.split_at.ensures.back c.in-Some.steps (sym c.in-Some.ensures)

pub returns-in-None-clause-ends : goal.returns-in-None-clause-ends
returns-in-None-clause-ends g c =
    let k = g.K.Key in
    let xs = c.args.slots.now in
    let begins : c.in_ok-start.start ≡ start (k.code c.args.seed) (length xs) c.args.key = c.in_ok-start.ensures.1 ∙ ap (λ z. z % length xs) c.hash_code.ensures in
    ending k.alike (k.code c.args.seed) xs c.args.key c.in_ok-start.start begins (omega arith) c.split_at.result.0.now c.split_at.result.1.now c.split_at.ensures.front c.split_at.ensures.back (sym c.in-None.ensures) c.stop-in-None.result (sym c.stop-in-None.ensures)
