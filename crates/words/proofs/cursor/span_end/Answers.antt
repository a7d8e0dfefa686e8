use Rattle.std.proofs.Common.{◌≡◌, ℕ, suc, [], ◌∷◌, ◌++◌, length, map, filter, Some, sym, ap, ◌∙◌, rules}
use Rattle.std.proofs.lemmas.Iterator.{YieldsList-from_slice, YieldsList-from_map}
use Rattle.std.proofs.lemmas.Iterator.Adapters.{YieldsList-from_once, option_map_id}
use Rattle.std.proofs.lemmas.Iterator.Consumers.{nth_from_yields_List, YieldsList-at, YieldsList-from_enumerate, YieldsList-from_filter, YieldsList-from_chain}
use Rattle.std.specs.List.{slice_get, enumerate_from}
use Rattle.words.specs.Words.{separates, words_of}
use Rattle.words.proofs.Spans.{ends_all, end_of, end_at, within_of}
use Rattle.words.proofs.cursor.span_end.Goals as goal
use Rattle.words.proofs.cursor.span_end.Goals.{After-nth}

place : (c : After-nth) → c.nth.result ≡ slice_get (map (λ p. p.0) (filter (λ p. separates p.1) (enumerate_from 0 c.args.s.now)) ++ length c.args.s.now ∷ []) c.in_ok-last.last
place c =
    sym (option_map_id c.nth.result)
    ∙ nth_from_yields_List c.nth.result _ c.in_ok-last.last c.nth.ensures.ran
    (YieldsList-from_chain
    (YieldsList-at c.chain.ensures.first
    (YieldsList-from_map _ (λ (p : ℕ × ℕ). p.0)
    (YieldsList-at c.map.ensures.source
    (YieldsList-from_filter _ (λ (p : ℕ × ℕ). separates p.1)
    (YieldsList-at c.filter.ensures.source (YieldsList-from_enumerate (YieldsList-at c.enumerate.ensures.source (YieldsList-from_slice c.args.s.now cc)) c.enumerate.ensures.count))
    c.filter.ensures.closure (λ x b q k. search rules)))
    c.map.ensures.closure (λ x r q k. search rules)))
    (YieldsList-at c.chain.ensures.second (YieldsList-from_once (Some (length c.args.s.now)) c.once.ensures.item)) c.chain.ensures.first_done c.chain.ensures.second_done)

value : (c : After-nth) → c.nth.result ≡ end_of c.args.count (words_of c.args.s.now)
value c =
    let s = c.args.s.now in
    let k = c.in_ok-last.last in
    let n : suc k ≡ c.args.count = search rules in
    place c ∙ ap (λ l. slice_get l k) (ends_all s) ∙ end_at s k ∙ ap (λ j. end_of j (words_of s)) n

pub returns-clause-value : goal.returns-clause-value
returns-clause-value c = value (goal.at.returns-clause-value c).After-nth

pub returns-clause-bound : goal.returns-clause-bound
returns-clause-bound c = within_of c.args.s.now c.args.count c.nth.result (value (goal.at.returns-clause-bound c).After-nth)
