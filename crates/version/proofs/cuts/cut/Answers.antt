use Rattle.std.proofs.Common.{◌==◌, Some, None, sym, ap, ◌∙◌, rules, tests}
use Rattle.std.proofs.lemmas.Iterator.{YieldsList-from_slice}
use Rattle.std.proofs.lemmas.Iterator.Search.{position_from_yields_List}
use Rattle.std.proofs.lemmas.List.{take_rest}
use Rattle.version.proofs.FirstMark.{cut_found}
use Rattle.version.proofs.cuts.cut.Goals as goal

pub returns-in-Some : goal.returns-in-Some
returns-in-Some c =
    let w = c.args.text.now in
    let h = position_from_yields_List (λ b. b == c.args.mark) _ _ _ c.position.ensures.ran (YieldsList-from_slice w cc) (λ x b q k. search (rules, tests)) in
    let e = cut_found c.args.mark w (Some c.in-Some.i) (sym c.in-Some.is ∙ h) in
    record { front = ap (λ p. p.0) e; rest = rw take_rest (ap (λ p. p.1) e) }

pub returns-in-None : goal.returns-in-None
returns-in-None c =
    let w = c.args.text.now in
    let h = position_from_yields_List (λ b. b == c.args.mark) _ _ _ c.position.ensures.ran (YieldsList-from_slice w cc) (λ x b q k. search (rules, tests)) in
    let e = cut_found c.args.mark w None (sym c.in-None.is ∙ h) in
    record { front = ap (λ p. p.0) e; rest = ap (λ p. p.1) e }
