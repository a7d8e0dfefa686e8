use Rattle.std.proofs.Common.{◌≡◌, rules}
use Rattle.std.specs.Prelude.{position}
use Rattle.std.proofs.lemmas.Iterator.{YieldsList-from_slice}
use Rattle.std.proofs.lemmas.Iterator.Search.{position_from_yields_List}
use borrow.Author.Tests.{tests}
use Rattle.words.specs.Words.{separates}
use Rattle.arith.proofs.Steps.{cut_at}
use Rattle.arith.proofs.cut_at_separator.Goals as goal

pub returns-in_err-i-clause-cut : goal.returns-in_err-i-clause-cut
returns-in_err-i-clause-cut c =
    let found : c.position.result ≡ position separates c.args.text.now = position_from_yields_List separates _ _ _ c.position.ensures.ran (YieldsList-from_slice c.args.text.now cc) (λ x b q k. search (rules, tests)) in
    rw (cut_at, ← found, c.in_err-i.was, c.from_residual.ensures)

pub returns-clause-cut : goal.returns-clause-cut
returns-clause-cut c =
    let found : c.position.result ≡ position separates c.args.text.now = position_from_yields_List separates _ _ _ c.position.ensures.ran (YieldsList-from_slice c.args.text.now cc) (λ x b q k. search (rules, tests)) in
    rw (cut_at, ← found, c.in_ok-i.was, c.split_at.ensures.front, c.split_at.ensures.back)
