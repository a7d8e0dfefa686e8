use Rattle.std.proofs.Common.{◌≡◌, Ok, Err, sym, ap, ◌∙◌}
use Rattle.std.proofs.lemmas.Result.{err_from_is_err_and}
use Rattle.fraction.specs.Fractions.{ratio}
use Rattle.arith.specs.Answers.{answered}
use Rattle.words.specs.Joined.{spaces}
use Rattle.arith.specs.Values.{arith_value, then}
use Rattle.arith.proofs.Sound.{arith_sound, arith_complete}
use Rattle.arith.proofs.parse_arith.Goals as goal

pub returns-in_err-read_value-clause-complete : goal.returns-in_err-read_value-clause-complete
returns-in_err-read_value-clause-complete c =
    let p = err_from_is_err_and _ c.from_residual.ensures.1 in
    let same : answered c.from_residual.result ≡ arith_value (spaces c.args.span.now) = ap answered (p.1 ∙ ap Err p.2) ∙ ap (λ x. then x (λ p. Ok p.0)) c.in_err-read_value.ensures.value in
    λ f t. same ∙ arith_complete _ f t

pub returns : goal.returns
returns c =
    let same : Ok (ratio c.in_ok-read_value.field-0.value) ≡ arith_value (spaces c.args.span.now) = ap (λ x. then x (λ p. Ok p.0)) c.in_ok-read_value.ensures.value in
    record { value = same; sound = arith_sound _ _ (sym same); complete = λ f t. same ∙ arith_complete _ f t }
