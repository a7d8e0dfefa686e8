use Rattle.std.proofs.Common.{◌≡◌, ℕ, zero, suc, ◌+◌, ◌≤◌, cond, List, length, take, is_some, None, Option, count_by, sym, refl, ap, ◌∙◌, add-one, arith, rules}
use Rattle.std.proofs.lemmas.List.{take_all}
use Rattle.std.proofs.lemmas.List.Sums.{sum_by_more}
use Rattle.front.specs.Fronts.{filled, low_keys}
use Rattle.front.specs.Lows.{length-cond}
use Rattle.front.proofs.front.count_low.Goals as goal

-- of the first n orders, as many are listed as have a number
counted : (orders : List (Option ℕ)) (n : ℕ) → n ≤ length orders → count_by is_some (take n orders) ≡ length (low_keys (filled orders) n)
unfolding low_keys
counted orders zero le = refl
counted orders (suc n) le =
    let more = sum_by_more (λ o. cond (is_some o) 1 0) orders n None (omega arith) in
    rw add-one at more ∙ ap (λ k. k + cond (filled orders n) 1 0) (counted orders n (omega arith)) ∙ sym (length-cond (filled orders n) n (low_keys (filled orders) n))

pub returns : goal.returns
returns c =
    let orders = c.args.orders.now in
    let all : c.count.result ≡ count_by is_some orders = search rules in
    all ∙ ap (count_by is_some) (sym (take_all 4096 orders (omega arith))) ∙ counted orders 4096 (omega arith)
