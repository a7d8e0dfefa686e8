use Rattle.std.proofs.Common.{◌≡◌, ℕ, ◌+◌, not, ◌&&◌, ltb, List, take, drop, Some, Ok, sym, refl, ap, ◌∙◌, rules}
use Rattle.std.specs.Result.{result_ok}
use Rattle.ids.specs.Numbers.{small}
use Rattle.words.specs.Words.{ahead, words_of, first_of, rest_of}
use Rattle.words.specs.Joined.{joined_text}
use Rattle.names.specs.QuantNames.{QuantRead, of_words, count_word, counted, quant_text, behind, name_words}
use Rattle.names.proofs.Quants.{within, front-some, text_of, drop-rest}
use Rattle.names.proofs.quant.parse_qid.Goals as goal
use Rattle.names.proofs.quant.parse_qid.Goals.{In_ok-num_vars}

abbrev read : List ℕ → ℕ → QuantRead
read t n = record { name = t; count = n }

many : (c : In_ok-num_vars) → name_words c.args.new_style (ahead c.args.words.now.left) ≡ Some c.in_ok-count.count
many c = sym c.name_words.ensures ∙ c.ok_or.ensures.ok_part ∙ ap result_ok c.in_ok-count.was

after : (c : In_ok-num_vars) → ahead c.span.new.self.left ≡ drop c.in_ok-count.count (ahead c.args.words.now.left)
after c = search rules

pub returns-clause-value : goal.returns-clause-value
returns-clause-value c =
    let i = (goal.at.returns-clause-value c).In_ok-num_vars in
    let new = c.args.new_style in
    let ws = ahead c.args.words.now.left in
    let from = c.args.words.now.number in
    let k = c.in_ok-count.count in
    let s = c.in_ok-span.span.now in
    let w = c.in_ok-word.word.now in
    let n = c.in_ok-num_vars.num_vars in
    let some = front-some k ws (within new ws k (many i)) in
    let words : words_of s ≡ take k ws = search rules in
    let first : first_of (drop k ws) ≡ Some w = sym (ap first_of (after i)) ∙ search rules in
    let read_small : small w ≡ Ok n = search rules in
    let text = ap (λ b. joined_text b s) c.bars_around-bars.ensures ∙ text_of new k ws s words (not new && ltb 1 k) refl in
    ap (λ t. Ok (read t n)) text
    ∙ sym (ap (of_words new from ws) (many i) ∙ ap (count_word (quant_text new k ws) (from + k)) first ∙ ap (counted (quant_text new k ws) (from + k)) read_small)

pub returns-clause-rest : goal.returns-clause-rest
returns-clause-rest c =
    let i = (goal.at.returns-clause-rest c).In_ok-num_vars in
    let ws = ahead c.args.words.now.left in
    let k = c.in_ok-count.count in
    let next : ahead c.next.new.self.left ≡ rest_of (ahead c.span.new.self.left) = search rules in
    next ∙ ap rest_of (after i) ∙ drop-rest k ws ∙ sym (ap (λ o. behind o ws) (many i))
