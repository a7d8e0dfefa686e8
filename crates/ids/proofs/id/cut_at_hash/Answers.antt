use Rattle.std.proofs.Common.{◌==◌, Some, None, sym, ap, ◌∙◌, rules, tests}
use Rattle.std.proofs.lemmas.Iterator.{YieldsList-from_slice}
use Rattle.std.proofs.lemmas.Iterator.Search.{position_from_yields_List}
use Rattle.std.proofs.lemmas.List.{take_rest}
use Rattle.ids.specs.Ids.{parts_said}
use Rattle.ids.proofs.Cut.{cut_at}
use Rattle.ids.proofs.id.cut_at_hash.Goals as goal

pub returns : goal.returns
returns c =
    let w = c.args.w.now in
    let h = position_from_yields_List (λ b. b == 35) _ _ _ c.position.ensures.ran (YieldsList-from_slice w cc) (λ x b q k. search (rules, tests)) in
    rw take_rest (cut_at w (Some c.in_ok-i.i) (sym c.in_ok-i.was ∙ h))

pub returns-in_err-i : goal.returns-in_err-i
returns-in_err-i c =
    let w = c.args.w.now in
    let h = position_from_yields_List (λ b. b == 35) _ _ _ c.position.ensures.ran (YieldsList-from_slice w cc) (λ x b q k. search (rules, tests)) in
    ap parts_said c.from_residual.ensures ∙ cut_at w None (sym c.in_err-i.was ∙ h)
