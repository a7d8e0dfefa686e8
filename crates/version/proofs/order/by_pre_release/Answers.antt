use Rattle.std.proofs.Common.{rules}
use Rattle.version.proofs.FieldCuts.{pre_left, pre_right, pre_both}
use Rattle.version.proofs.order.by_pre_release.Goals as goal

pub returns-in-None-Some : goal.returns-in-None-Some
returns-in-None-Some c = search (rules, pre_right)

pub returns-in-Some-None : goal.returns-in-Some-None
returns-in-Some-None c = search (rules, pre_left)

pub returns-in-Some-Some : goal.returns-in-Some-Some
returns-in-Some-Some c = search (rules, pre_both)
