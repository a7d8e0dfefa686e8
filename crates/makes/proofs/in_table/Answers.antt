use Rattle.makes.proofs.in_table.Goals as goal

pub returns : goal.returns
returns c =
    let fresh = c.term_table-table.ensures in
    rw (← fresh.size) (c.enter_and_ask.ensures.asked fresh.sound fresh.empty)
