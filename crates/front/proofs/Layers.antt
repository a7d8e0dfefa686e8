-- What a front makes of what lies below. Assumes nothing.
use Rattle.std.proofs.Common.{◌≡◌, ℕ, ◌<◌, Bool, true, false, List, length, get_or, set, is_some, Some, None, Ok, Option, Result, ap, ◌∙◌, arith, get_or-set_other, get_or-set_same}
use mathlib.Core.Path.{fun_ext}
use Rattle.std.proofs.lemmas.Grind.{common_steps}
use Rattle.keyed.specs.Meaning.{Names, Kept, kept, nothing, put, Entered}
use Rattle.idents.specs.declared.ident.Ident.{Ident}
use Rattle.idents.specs.Idents.{same_ident, same_is}
use Rattle.front.specs.Lows.{low-more, low-none}
use Rattle.front.specs.FrontLaws.{below_is}
use Rattle.front.specs.Fronts.{frontal, filled, front_names, front_room, Clear}

-- one meaning, if each identifier is found alike and as many are held
same_names : (m n : Names Ident ℕ) → ((i : Ident) → m.find i ≡ n.find i) → m.count ≡ n.count → m ≡ n
same_names m n find count j = record { find = fun_ext find j; count = count j }

module _ (orders : List (Option ℕ)) (m : Names Ident ℕ) (i : Ident) (n : ℕ) where
  put_low : frontal i ≡ true → length orders ≡ 4096 → front_names (set orders i.order (Some n)) m ≡ put same_ident (front_names orders m) i n
  put_low lo long =
      let more = low-more (filled orders) (filled (set orders i.order (Some n))) 4096 i.order (grind (arith, common_steps))
      (ap is_some (get_or-set_same orders i.order (Some n) None (grind (arith, common_steps))))
      (λ o ne. ap is_some (get_or-set_other orders i.order o (Some n) None ne)) in
      same_names _ _ (λ j. grind (arith, common_steps)) (grind (arith, common_steps))

  -- an entry in the front's own places
  pub entered-low : {E : Type 0} {old : Option ℕ} {after : List (Option ℕ)} (roomy : ℕ → Kept Ident → Ident → Bool) (size : ℕ) (refusal : E) → frontal i ≡ true → length orders ≡ 4096 → old ≡ get_or orders i.order None → after ≡ set orders i.order (Some n)
      → Entered same_ident (front_room roomy size (kept (front_names orders m)) i) i n refusal (front_names orders m) (front_names after m) (Ok old)
  entered-low roomy size refusal lo long found made =
      let leaves = ap (λ o. front_names o m) made ∙ put_low lo long in
      record { answers = grind (arith, common_steps); leaves = grind (arith, common_steps) }

  put-high : frontal i ≡ false → front_names orders (put same_ident m i n) ≡ put same_ident (front_names orders m) i n
  put-high high = same_names _ _ (λ j. grind (arith, common_steps, same_is)) (grind (arith, common_steps))

-- an entry below is an entry
pub entered-high : (orders : List (Option ℕ)) (roomy : ℕ → Kept Ident → Ident → Bool) (size : ℕ) {m after : Names Ident ℕ} {i : Ident} {n : ℕ} {E : Type 0} {refusal : E} {r : Result (Option ℕ) E} → Clear m → frontal i ≡ false → Entered same_ident (roomy size (kept m) i) i n refusal m after r
    → Entered same_ident (front_room roomy size (kept (front_names orders m)) i) i n refusal (front_names orders m) (front_names orders after) r
entered-high orders roomy size {m = m} {i = i} {n = n} clear high e =
    let below = below_is orders m clear in
    let put = put-high orders m i n high in
    record { answers = grind (arith, common_steps); leaves = grind (arith, common_steps) }

-- a front whose places are empty, over an index that holds nothing, holds nothing
pub front-empty : (orders : List (Option ℕ)) (m : Names Ident ℕ) → ((o : ℕ) → o < 4096 → get_or orders o None ≡ None) → m ≡ nothing → front_names orders m ≡ nothing
front-empty orders m none e =
    let lows = low-none (filled orders) 4096 (λ o lt. ap is_some (none o lt)) in
    same_names _ _ (λ i. grind (arith, common_steps)) (grind (arith, common_steps))
