use Rattle.std.proofs.Common.{◌≡◌, ℕ, ◌≤◌, List, [], ◌∷◌, length, Option, MatchOption, Bor, refl, ap, ◌∙◌, arith}
use Rattle.std.specs.Iterator.{YieldsThen}
use Rattle.std.specs.List.{slice_get}
use Rattle.std.specs.Option.{option_map}
use Rattle.std.proofs.lemmas.Iterator.Consumers.{nth_from_yields_List}
use Rattle.words.specs.Cursor.{GivesWord}
use Rattle.words.specs.declared.cursor.Words.{Words}
use Rattle.words.specs.Words.{ahead, words_of, first_of, rest_of}
use Rattle.words.proofs.Items.{YieldsList-from_words}
use Rattle.census.proofs.count.word_1.Goals as goal

second : (ws : List (List ℕ)) → slice_get ws 1 ≡ first_of (rest_of ws)
second [] = refl
second (w ∷ []) = refl
second (w ∷ v ∷ ws) = refl

-- what `nth` gave is the second word of the line
nth_word : (line : List ℕ) (s u : Words) (r : Option (Bor (List ℕ))) → ahead s.left ≡ words_of line → (xs : List (Bor (List ℕ))) × YieldsThen GivesWord s xs r u × MatchOption r (length xs ≤ 1) (λ _. length xs ≡ 1) → option_map (λ x. x.now) r ≡ first_of (rest_of (words_of line))
nth_word line s u r e ran = nth_from_yields_List r u 1 ran (YieldsList-from_words s) ∙ second (ahead s.left) ∙ ap (λ ws. first_of (rest_of ws)) e

pub returns-in_err-word : goal.returns-in_err-word
returns-in_err-word c = let e = nth_word c.args.line.now _ _ _ c.of.ensures.words c.nth.ensures.ran in grind arith

pub returns-in_err-parse_id : goal.returns-in_err-parse_id
returns-in_err-parse_id c = let e = nth_word c.args.line.now _ _ _ c.of.ensures.words c.nth.ensures.ran in grind arith

pub returns : goal.returns
returns c = let e = nth_word c.args.line.now _ _ _ c.of.ensures.words c.nth.ensures.ran in grind arith
