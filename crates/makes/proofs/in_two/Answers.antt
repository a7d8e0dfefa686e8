use Rattle.std.proofs.Common.{◌∙◌}
use Rattle.makes.proofs.in_two.Goals as goal

pub returns : goal.returns
returns c =
    let fresh = c.term_table-table.ensures in
    let below = c.new-below.ensures in
    let made = c.new-front.ensures in
    let empty = below.empty fresh.empty in
    rw (← (made.size ∙ below.size ∙ fresh.size)) (c.enter_and_ask.ensures.asked (made.sound (below.sound fresh.sound fresh.empty) empty) (made.empty empty))
