use Rattle.std.proofs.Common.{◌∙◌}
use Rattle.makes.proofs.in_front.Goals as goal

pub returns : goal.returns
returns c =
    let fresh = c.term_table-table.ensures in
    let made = c.new-front.ensures in
    rw (← (made.size ∙ fresh.size)) (c.enter_and_ask.ensures.asked (made.sound fresh.sound fresh.empty) (made.empty fresh.empty))
