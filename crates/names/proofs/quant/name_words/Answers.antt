use Rattle.std.proofs.Common.{◌≡◌, suc, true, false, not, ◌&&◌, inl, is_ok, sym, ap, ◌∙◌, arith, rules, tests}
use Rattle.std.specs.Option.{option_map}
use Rattle.std.proofs.lemmas.Bool.{cond-true}
use Rattle.std.proofs.lemmas.Iterator.Search.{position_from_yields_List}
use Rattle.ids.specs.Numbers.{small}
use Rattle.words.specs.Words.{ahead}
use Rattle.words.proofs.Cut.{from_first}
use Rattle.words.proofs.Items.{YieldsList-from_words, ahead-few}
use Rattle.names.specs.QuantNames.{opens, closes, name_words}
use Rattle.names.proofs.quant.name_words.Goals as goal
use Rattle.names.proofs.quant.name_words.Goals.{After-position, After-position-then-not-ends_with}

-- the place of the first small number behind the first word
old : (c : After-position) → name_words c.args.new_style (ahead c.args.words.left) ≡ option_map suc c.position.result
old c =
    let e = from_first _ _ _ c.in_ok-first.ensures.steps.word c.in_ok-first.ensures.steps.rest in
    let p = position_from_yields_List (λ w. is_ok (small w)) _ _ c.position.result c.position.ensures.ran (YieldsList-from_words c.next.new.self) (λ x b q k. search (rules, tests)) in
    ap (λ b. name_words b (ahead c.args.words.left)) c.if-not-new_style.true ∙ ap (name_words false) e ∙ ap (option_map suc) (sym p)

-- the place of the first word behind the first that ends with a bar
new : (c : After-position-then-not-ends_with) → name_words c.args.new_style (ahead c.args.words.left) ≡ option_map suc (option_map suc c.position-then-not-ends_with.result)
new c =
    let e = from_first _ _ _ c.in_ok-first.ensures.steps.word c.in_ok-first.ensures.steps.rest in
    let p = position_from_yields_List closes _ _ c.position-then-not-ends_with.result c.position-then-not-ends_with.ensures.ran (YieldsList-from_words c.next.new.self) (λ x b q k. search (rules, tests)) in
    let w = c.in_ok-first.first.now in
    let some : (opens w && not (closes w)) ≡ true = search rules in
    ap (λ b. name_words b (ahead c.args.words.left)) c.if-not-new_style.false ∙ ap (name_words true) e ∙ cond-true (opens w && not (closes w)) _ _ some ∙ ap (λ o. option_map suc (option_map suc o)) (sym p)

pub position-requires-clause-fits : goal.position-requires-clause-fits
position-requires-clause-fits c = inl (omega (arith, ahead-few c.next.new.self))

pub returns-in_err-more : goal.returns-in_err-more
returns-in_err-more c = let e = old (goal.at.returns-in_err-more c).After-position in search rules

pub overflow_add-result : goal.overflow_add-result
overflow_add-result c = omega (arith, ahead-few c.next.new.self, c.in_ok-more.ensures.bound)

pub returns-then-not-new_style : goal.returns-then-not-new_style
returns-then-not-new_style c = let e = old (goal.at.returns-then-not-new_style c).After-position in search rules

pub position-requires-then-not-ends_with-clause-fits : goal.position-requires-then-not-ends_with-clause-fits
position-requires-then-not-ends_with-clause-fits c = inl (omega (arith, ahead-few c.next.new.self))

pub returns-in_err-more-2 : goal.returns-in_err-more-2
returns-in_err-more-2 c = let e = new (goal.at.returns-in_err-more-2 c).After-position-then-not-ends_with in search rules

pub overflow_add-result-then-not-ends_with : goal.overflow_add-result-then-not-ends_with
overflow_add-result-then-not-ends_with c = omega (arith, ahead-few c.next.new.self, c.in_ok-more-2.ensures.bound)

pub returns-then-not-ends_with : goal.returns-then-not-ends_with
returns-then-not-ends_with c = let e = new (goal.at.returns-then-not-ends_with c).After-position-then-not-ends_with in search rules
