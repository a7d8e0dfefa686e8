use Rattle.std.proofs.Common.{arith, rules, tests}
use Rattle.pairs.specs.Texts.{semicolon}
use Rattle.pairs.proofs.Pieces.{two_of_split}
use Rattle.pairs.proofs.strip.two_pieces.Goals as goal

pub returns-in_err-next-2 : goal.returns-in_err-next-2
returns-in_err-next-2 c =
    let h = two_of_split semicolon c.split-pieces.result c.next.new.self c.next-2.new.self c.args.word.now c.in_ok-next.field-0 c.next-2.result c.split-pieces.ensures.runs c.split-pieces.ensures.rest c.split-pieces.ensures.done (λ x b q k. search (rules, tests)) c.in_ok-next.ensures.steps c.next-2.ensures.steps in
    grind arith

pub returns : goal.returns
returns c =
    let h = two_of_split semicolon c.split-pieces.result c.next.new.self c.next-2.new.self c.args.word.now c.in_ok-next.field-0 c.next-2.result c.split-pieces.ensures.runs c.split-pieces.ensures.rest c.split-pieces.ensures.done (λ x b q k. search (rules, tests)) c.in_ok-next.ensures.steps c.next-2.ensures.steps in
    grind arith
