use Rattle.std.proofs.Common.{arith}
use Rattle.pairs.proofs.reading.read_pair.Goals as goal

pub returns-in_err-parts-clause-value : goal.returns-in_err-parts-clause-value
returns-in_err-parts-clause-value c = grind arith
