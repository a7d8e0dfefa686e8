-- The steps of the reader of values. Assumes nothing.
use Rattle.std.proofs.Common.{◌≡◌, ℕ, zero, suc, ◌+◌, ◌-◌, ◌*◌, ◌^◌, ◌<◌, ◌≤◌, min, true, false, cond, not, eqb, leb, ltb, List, [], ◌∷◌, length, get_or, take, drop, Bool, Some, None, Ok, Err, sym, refl, ap, ◌∙◌, ⊎_elim, arith}
use Rattle.std.specs.Option.{option_map}
use Rattle.std.proofs.lemmas.List.{take_rest, length-drop, length-map}
use Rattle.std.specs.List.{position, position_or_len}
use Rattle.std.proofs.lemmas.Bool.{cases_lt, lt-ltb, le-ltb, and_parts, leb-true, cond-true, cond-false}
use Rattle.std.proofs.lemmas.Bool.Decides.{nat_tests}
use Rattle.fraction.specs.Ratios.{Ratio, whole}
use Rattle.fraction.specs.Fractions.{lowest}
use Rattle.fraction.proofs.Whole.{lowest-large}
use Rattle.words.specs.Words.{separates}
use Rattle.words.specs.Joined.{as_space, spaces}
use Rattle.arith.specs.declared.Operator.{Operator}
use Rattle.arith.specs.declared.ValueFault.{ValueFault}
use Rattle.arith.specs.Laws.{Clear}
use Rattle.arith.specs.Values.{Read, Tally, none, operator_of, digit, digits_after, literal_of, onto, cut_at_space, value_at, bracket, arguments, fold_in, then, worked}
use Rattle.arith.proofs.Spaced.{front, space_operator}

-- ---- digits
pub digit_low : (b : ℕ) → digit b ≡ true → (48 ≤ b) × (b ≤ 57)
digit_low b e = let p = and_parts (leb 48 b) (leb b 57) e in (leb-true 48 b p.0, leb-true b 57 p.1)

pub digits_stop : (n : ℕ) (w : List ℕ) → Clear w → digits_after n w ≡ (n, w)
digits_stop n [] c = refl
digits_stop n (b ∷ bs) c = cond-false (digit b) _ _ c

-- a number past 64 bits may stay at the largest
pub saturated_same : (m n : ℕ) → n ≡ min m (2 ^ 64 - 1) → lowest (whole n) ≡ lowest (whole m)
saturated_same m n e = ⊎_elim
    (λ l. ap (λ k. lowest (whole k)) (small l))
    (λ l. lowest-large n (large l) ∙ sym (lowest-large m (larger l)))
    (cases_lt m (2 ^ 64 - 1))
  where
    small : m < 2 ^ 64 - 1 → n ≡ m
    small l = omega arith

    large : 2 ^ 64 - 1 ≤ m → 2 ^ 63 ≤ n
    large l = omega arith

    larger : 2 ^ 64 - 1 ≤ m → 2 ^ 63 ≤ m
    larger l = omega arith

-- what a reader of digits knows with n for the figures before `rest`
pub record Figures (n : ℕ) (rest text : List ℕ) : Type 0 where
  pub exact : ℕ
  pub near : n ≡ min exact (2 ^ 64 - 1)
  pub same : digits_after exact (spaces rest) ≡ digits_after 0 (spaces text)
  pub within : length rest ≤ length text

pub figures_more : (n n' : ℕ) (rest text : List ℕ) → Figures n rest text → 0 < length rest → 48 ≤ get_or rest 0 0 → get_or rest 0 0 ≤ 57
    → n' ≡ min (min (n * 10) (2 ^ 64 - 1) + (get_or rest 0 0 - 48)) (2 ^ 64 - 1) → Figures n' (take (length rest - 1) (drop 1 rest)) text
figures_more n n' rest text r h low high e =
    let b = get_or rest 0 0 in
    let v = take (length rest - 1) (drop 1 rest) in
    let seen : as_space b ≡ b = grind (arith, nat_tests) in
    let is : digit b ≡ true = grind (arith, nat_tests) in
    record {
      exact = r.exact * 10 + (b - 48);
      near = omega (arith, r.near);
      same = sym (ap (digits_after r.exact) (front rest h) ∙ ap (λ x. digits_after r.exact (x ∷ spaces v)) seen ∙ cond-true (digit b) _ _ is) ∙ r.same;
      within = omega (arith, ap length (take_rest rest 1), length-drop 1 rest, r.within);
    }

pub figures_end : (n : ℕ) (rest text : List ℕ) → Figures n rest text → Clear (spaces rest) → literal_of (digits_after 0 (spaces text)) ≡ then (worked (lowest (whole n))) (λ q. Ok (q, spaces rest))
figures_end n rest text r c = ap literal_of (sym r.same ∙ digits_stop r.exact (spaces rest) c) ∙ ap (λ x. then (worked x) (λ q. Ok (q, spaces rest))) (sym (saturated_same r.exact n r.near))

-- ---- the first space
abbrev parts : List ℕ → ℕ → List ℕ × List ℕ
parts w i = (spaces (take i w), spaces (drop i w))

pub cut_at : (w : List ℕ) → cut_at_space (spaces w) ≡ option_map (parts w) (position separates w)
cut_at [] = refl
cut_at (b ∷ bs) = by (separates b) refl (cut_at bs)
  where
    more : (k j : ℕ) → j ≡ suc k → onto (as_space b) (option_map (parts bs) (cond (ltb k (length bs)) (Some k) None)) ≡ option_map (parts (b ∷ bs)) (cond (ltb j (suc (length bs))) (Some j) None)
    more k j is = ⊎_elim
        (λ l. ap (λ o. onto (as_space b) (option_map (parts bs) o)) (cond-true _ _ _ (lt-ltb k (length bs) l)) ∙ sym (ap (option_map (parts (b ∷ bs))) (cond-true _ _ _ (lt-ltb j (suc (length bs)) (omega arith)) ∙ ap Some is)))
        (λ l. ap (λ o. onto (as_space b) (option_map (parts bs) o)) (cond-false _ _ _ (le-ltb k (length bs) l)) ∙ sym (ap (option_map (parts (b ∷ bs))) (cond-false _ _ _ (le-ltb j (suc (length bs)) (omega arith)))))
        (cases_lt k (length bs))

    by : (t : Bool) → separates b ≡ t → cut_at_space (spaces bs) ≡ option_map (parts bs) (position separates bs) → cut_at_space (spaces (b ∷ bs)) ≡ option_map (parts (b ∷ bs)) (position separates (b ∷ bs))
    by true e h = grind (arith, nat_tests)
    by false e h =
        let k = position_or_len separates bs in
        let seen : eqb (as_space b) 32 ≡ false = grind (arith, nat_tests) in
        let next : position_or_len separates (b ∷ bs) ≡ suc k = ap (λ t. cond (not t) (1 + k) 0) e ∙ omega arith in
        cond-false _ _ _ seen ∙ ap (onto (as_space b)) h ∙ more k (position_or_len separates (b ∷ bs)) next

-- ---- brackets
-- what a reader of arguments knows before `rest`
pub record Turns (depth : ℕ) (op : Operator) (s : Tally) (rest text : List ℕ) : Type 0 where
  pub turns : ℕ
  pub enough : length rest ≤ turns
  pub same : arguments (value_at (depth - 1)) op turns s (spaces rest) ≡ value_at depth (spaces text)
  pub within : s.number + length rest < length text

-- what stands behind the byte at the front
abbrev behind : List ℕ → List ℕ
behind w = take (length w - 1) (drop 1 w)

behind_shorter : (w : List ℕ) → length (behind w) ≡ length w - 1
behind_shorter w = ap length (take_rest w 1) ∙ length-drop 1 w

opens : (d : ℕ) (v : List ℕ) → 0 < d → value_at d (40 ∷ v) ≡ bracket (value_at (d - 1)) (cut_at_space v)
opens zero v h = absurd (omega arith)
opens (suc d) v h = ap (λ k. bracket (value_at k) (cut_at_space v)) (omega arith)

pub turns_start : (d : ℕ) (op : Operator) (name rest text : List ℕ) → 0 < d → 0 < length text → get_or text 0 0 ≡ 40 → operator_of name ≡ op
    → cut_at_space (spaces (behind text)) ≡ Some (spaces name, spaces rest) → length rest ≤ length (behind text) → Turns d op none rest text
turns_start d op name rest text h some e is cut short = record {
  turns = length (spaces rest);
  enough = omega (arith, length-map rest as_space);
  same = sym (
      ap (value_at d) (front text some ∙ ap (λ b. as_space b ∷ spaces (behind text)) e)
      ∙ opens d (spaces (behind text)) h
      ∙ ap (bracket (value_at (d - 1))) cut
      ∙ ap (λ o. arguments (value_at (d - 1)) o (length (spaces rest)) none (spaces rest)) (space_operator name ∙ is));
  within = omega (arith, behind_shorter text);
}

module _ (d : ℕ) (op : Operator) (s : Tally) (rest text : List ℕ) (r : Turns d op s rest text) (some : 0 < length rest) (sep : separates (get_or rest 0 0) ≡ true) where
  abbrev inner : List ℕ → Read
  inner = value_at (d - 1)

  turn : value_at d (spaces text) ≡ then (inner (spaces (behind rest))) (λ p. then (fold_in op s.number s.result p.0) (λ t. arguments inner op (r.turns - 1) t p.1))
  turn = sym r.same ∙ ap (arguments inner op r.turns s) (front rest some ∙ ap (λ b. b ∷ spaces (behind rest)) (cond-true _ _ _ sep)) ∙ by r.turns (omega (arith, r.enough))
    where
      by : (f : ℕ) → 0 < f → arguments inner op f s (32 ∷ spaces (behind rest)) ≡ then (inner (spaces (behind rest))) (λ p. then (fold_in op s.number s.result p.0) (λ t. arguments inner op (f - 1) t p.1))
      by zero h = absurd (omega arith)
      by (suc f) h = ap (λ k. then (inner (spaces (behind rest))) (λ p. then (fold_in op s.number s.result p.0) (λ t. arguments inner op k t p.1))) (omega arith)

  pub turns_next : (q : Ratio) (u : List ℕ) (s' : Tally) → inner (spaces (behind rest)) ≡ Ok (q, spaces u) → fold_in op s.number s.result q ≡ Ok s' → s'.number ≡ s.number + 1 → length u ≤ length (behind rest) → Turns d op s' u text
  turns_next q u s' e f n short = record {
    turns = r.turns - 1;
    enough = omega (arith, r.enough, behind_shorter rest);
    same = sym (
        turn ∙ ap (λ x. then x (λ p. then (fold_in op s.number s.result p.0) (λ t. arguments inner op (r.turns - 1) t p.1))) e
        ∙ ap (λ x. then x (λ t. arguments inner op (r.turns - 1) t (spaces u))) f);
    within = omega (arith, r.within, behind_shorter rest);
  }

  pub turns_refused : (q : Ratio) (u : List ℕ) (x : ValueFault) → inner (spaces (behind rest)) ≡ Ok (q, spaces u) → fold_in op s.number s.result q ≡ Err x → value_at d (spaces text) ≡ Err x
  turns_refused q u x e f =
      turn ∙ ap (λ x. then x (λ p. then (fold_in op s.number s.result p.0) (λ t. arguments inner op (r.turns - 1) t p.1))) e
      ∙ ap (λ x. then x (λ t. arguments inner op (r.turns - 1) t (spaces u))) f

-- ---- the front of a value
pub value_digit : (d : ℕ) (v : List ℕ) → 0 < length v → digit (get_or v 0 0) ≡ true → value_at d v ≡ literal_of (digits_after 0 v)
value_digit d [] l e = absurd (omega arith)
value_digit zero (b ∷ bs) l e = cond-true (digit b) _ _ e
value_digit (suc d) (b ∷ bs) l e = cond-true (digit b) _ _ e
