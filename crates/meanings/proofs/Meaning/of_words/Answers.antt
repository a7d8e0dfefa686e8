use Rattle.std.proofs.Common.{◌≡◌, Some, ap, sym, ◌∙◌, ◌∷◌, rules}
use Rattle.std.specs.Option.{option_map}
use Rattle.words.specs.Joined.{spaces, unwords}
use Rattle.words.specs.Words.{ahead}
use Rattle.words.proofs.Cut.{from_first}
use Rattle.meanings.specs.Meanings.{meaning_of, words_say}
use Rattle.meanings.specs.Same.{same_decides}
use Rattle.meanings.proofs.Texts.{text_of, text_left}
use Rattle.meanings.proofs.Meaning.of_words.Goals as goal

pub returns-clause-value : goal.returns-clause-value
returns-clause-value c =
    let step = c.in_ok-theory.ensures.steps in
    let theory = c.in_ok-theory.theory.now in
    let after = c.next.new.self.left in
    let told : ahead c.args.words.left ≡ theory ∷ ahead after = from_first _ _ _ step.word step.rest in
    let read : c.unwrap_or.result.now ≡ text_of (option_map (λ x. x.now) c.rest_of_line.result) = search rules in
    let value : spaces c.unwrap_or.result.now ≡ unwords (ahead after) = ap spaces (read ∙ ap text_of c.rest_of_line.ensures) ∙ text_left after in
    ap (λ r. Some r) (c.read.ensures ∙ ap (meaning_of theory) value) ∙ sym (ap words_say told)

pub returns-clause-alike : goal.returns-clause-alike
returns-clause-alike c = same_decides
