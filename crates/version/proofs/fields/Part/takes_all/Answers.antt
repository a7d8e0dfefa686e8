use Rattle.std.proofs.Common.{◌==◌, sym, ap, ◌∙◌, rules, tests}
use Rattle.std.proofs.lemmas.Iterator.Search.{all_from_yields_List}
use Rattle.std.proofs.lemmas.Iterator.Splits.{YieldsList-from_slice_split}
use Rattle.version.specs.Grammar.{every}
use Rattle.version.specs.Reader.{fields_in}
use Rattle.version.specs.View.{taken_in}
use Rattle.version.proofs.fields.Part.takes_all.Goals as goal

pub returns-in-Some : goal.returns-in-Some
returns-in-Some c =
    all_from_yields_List (taken_in c.args.self) _ _ _ c.all.ensures.ran (YieldsList-from_slice_split _ (λ b. b == 46) _ c.split.ensures.rest c.split.ensures.done c.split.ensures.closure (λ x b q k. search (rules, tests))) (λ x b q k. search (rules, tests)) ∙ ap (λ o. every (taken_in c.args.self) (fields_in o)) (sym c.in-Some.is)
