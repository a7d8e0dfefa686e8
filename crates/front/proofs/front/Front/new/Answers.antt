use Rattle.std.proofs.Common.{replicate, None}
use lib.ListN.{get_or-replicate}
use Rattle.front.proofs.Layers.{front-empty}
use Rattle.front.proofs.front.Front.new.Goals as goal

pub returns-clause-empty : goal.returns-clause-empty
returns-clause-empty g c = front-empty (replicate 4096 None) (g.I.TermIdToIdxMap.means c.args.below.now) (λ o lt. get_or-replicate 4096 o None None lt)
