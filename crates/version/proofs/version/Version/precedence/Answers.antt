use Rattle.std.proofs.Common.{rules}
use Rattle.version.specs.Precedence.{by_precedence}
use Rattle.version.proofs.Ranked.{then_assoc}
use Rattle.version.proofs.version.Version.precedence.Goals as goal

pub returns : goal.returns
unfolding by_precedence
returns c = search (rules, then_assoc)
