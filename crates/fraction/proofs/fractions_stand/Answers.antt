use Rattle.fraction.proofs.Gcd.{gcd-is}
use Rattle.fraction.proofs.Lowest.{lowest-gives, lowest-only}
use Rattle.fraction.proofs.fractions_stand.Goals as goal

pub returns-clause-divisor : goal.returns-clause-divisor
returns-clause-divisor c = gcd-is

pub returns-clause-terms : goal.returns-clause-terms
returns-clause-terms c = record { gives = lowest-gives; only = lowest-only }
