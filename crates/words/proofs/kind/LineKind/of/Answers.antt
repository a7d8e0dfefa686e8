use Rattle.std.proofs.Common.{sym, ◌∙◌, rules}
use Rattle.std.proofs.lemmas.Iterator.{YieldsList-from_slice}
use Rattle.std.proofs.lemmas.Iterator.Adapters.{option_map_id}
use Rattle.std.proofs.lemmas.Iterator.Consumers.{YieldsList-from_copied, YieldsList-at}
use Rattle.std.proofs.lemmas.Iterator.Search.{find_from_yields_List}
use Rattle.std.specs.Str.{bytes_eq}
use Rattle.words.specs.Kinds.{kinds, text_of}
use Rattle.words.proofs.Standing.{kinds-by_text}
use Rattle.words.proofs.kind.LineKind.of.Goals as goal

pub returns-clause-value : goal.returns-clause-value
returns-clause-value c =
    sym (option_map_id c.find.result)
    ∙ find_from_yields_List (λ k. bytes_eq c.args.word.now (text_of k)) _ _ c.find.result c.find.ensures.ran (YieldsList-from_copied (YieldsList-at c.copied.ensures.source (YieldsList-from_slice kinds cc))) (λ x b q k. search rules)

pub returns-clause-exact : goal.returns-clause-exact
returns-clause-exact c = kinds-by_text
