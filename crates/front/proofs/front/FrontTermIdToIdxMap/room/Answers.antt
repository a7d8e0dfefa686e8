use Rattle.std.proofs.Common.{sym}
use Rattle.front.specs.FrontLaws.{below_is}
use Rattle.front.proofs.front.FrontTermIdToIdxMap.room.Goals as goal

pub returns-else-is_frontal-clause-value : goal.returns-else-is_frontal-clause-value
returns-else-is_frontal-clause-value g c ok =
    let s = c.args.self.now in
    rw (sym c.if-is_frontal.ensures, below_is s.orders.now (g.I.TermIdToIdxMap.means s.below.now) ok.1) (c.room.ensures.value ok.0)
