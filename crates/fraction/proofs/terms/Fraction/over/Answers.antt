use Rattle.std.proofs.Common.{rules, SFits}
use mir.Syntax.{w64}
use Rattle.std.proofs.lemmas.Int.{to_z-of_z}
use borrow.Author.Tests.{tests}
use Rattle.fraction.proofs.terms.Fraction.over.Goals as goal

pub returns : goal.returns
returns c =
    let fits : SFits w64 c.args.other.num = search rules in
    let size = simp to_z-of_z at c.unsigned_abs-size.ensures.value in
    search (rules, tests)
