-- A row of slots counts what it holds. Assumes nothing.
use Rattle.std.proofs.Common.{◌≡◌, ℕ, suc, ◌+◌, ◌<◌, Bool, true, false, cond, ◌||◌, List, [], ◌∷◌, length, count_by, get_or, set, is_some, Some, None, Option, sym, refl, ap, ◌∙◌, arith}
use Rattle.std.proofs.lemmas.List.Recursion.{is_count_by, found_at, found_nowhere, found_set_other}
use Rattle.keys.specs.Keys.{Lawful}
use Rattle.keyed.specs.Meaning.{kept, listed, NoRepeats, Finite}
use Rattle.keyed.specs.Slots.{holds_key, value_in, value_at, keys_in, table_names, Apart, Probing}

pub some_or : {A : Type 0} (b : Bool) (x : A) (o : Option A) → is_some (cond b (Some x) o) ≡ (b || is_some o)
some_or true x o = refl
some_or false x o = refl

-- the keys are as many as the slots that are held
pub keys_held : {K V : Type 0} (xs : List (Option (K × V))) → length (keys_in xs) ≡ count_by (λ x. is_some x) xs
keys_held {K = K} {V = V} = is_count_by (λ (xs : List (Option (K × V))). length (keys_in xs)) (λ x. is_some x) refl more where
  more : (x : Option (K × V)) (xs : List (Option (K × V))) → length (keys_in (x ∷ xs)) ≡ cond (is_some x) (1 + length (keys_in xs)) (length (keys_in xs))
  more None xs = refl
  more (Some e) xs = omega arith

module _ {K V : Type 0} (alike : K → K → Bool) where
  value_more : (k : K) (x : Option (K × V)) (xs : List (Option (K × V))) → value_at alike (x ∷ xs) k ≡ cond (holds_key alike k x) (value_in x) (value_at alike xs k)
  value_more k None xs = refl
  value_more k (Some e) xs = refl

  pub value_none : (xs : List (Option (K × V))) (k : K) → ((j : ℕ) → j < length xs → holds_key alike k (get_or xs j None) ≡ false) → value_at alike xs k ≡ None
  value_none xs k = found_nowhere (λ ys. value_at alike ys k) (holds_key alike k) value_in None refl (value_more k) xs None

  -- the first slot with a key like k
  pub value_hit : (xs : List (Option (K × V))) (k : K) (i : ℕ) → i < length xs → ((j : ℕ) → j < i → holds_key alike k (get_or xs j None) ≡ false) → holds_key alike k (get_or xs i None) ≡ true → value_at alike xs k ≡ value_in (get_or xs i None)
  value_hit xs k i = found_at (λ ys. value_at alike ys k) (holds_key alike k) value_in None refl (value_more k) xs i None

  -- a store where neither the old key nor the new one is like k
  pub value_kept : (xs : List (Option (K × V))) (k : K) (i : ℕ) (y : Option (K × V)) → holds_key alike k (get_or xs i None) ≡ false → holds_key alike k y ≡ false → value_at alike (set xs i y) k ≡ value_at alike xs k
  value_kept xs k i y = found_set_other (λ ys. value_at alike ys k) (holds_key alike k) value_in None refl (value_more k) xs i y None

  -- the keys in the slots are exactly those held
  keys_exact : (xs : List (Option (K × V))) (k : K) → is_some (value_at alike xs k) ≡ listed alike k (keys_in xs)
  keys_exact [] k = refl
  keys_exact (None ∷ xs) k = keys_exact xs k
  keys_exact (Some (q, v) ∷ xs) k = some_or (alike k q) v (value_at alike xs k) ∙ ap (λ b. alike k q || b) (keys_exact xs k)

  -- and none of them twice
  keys_apart : ((x : K) → alike x x ≡ true) → (xs : List (Option (K × V))) → Apart alike (length xs) xs → NoRepeats alike (keys_in xs)
  keys_apart self [] apart = tt
  keys_apart self (None ∷ xs) apart = keys_apart self xs (λ k i j li lj ne e. apart k (suc i) (suc j) (omega arith) (omega arith) (λ q. ne (omega arith)) e)
  keys_apart self (Some (q, v) ∷ xs) apart = (
    sym (keys_exact xs q) ∙ ap is_some (value_none xs q (λ j lt. apart q 0 (suc j) (omega arith) (omega arith) (λ e. omega arith) (self q))),
    keys_apart self xs (λ k i j li lj ne e. apart k (suc i) (suc j) (omega arith) (omega arith) (λ z. ne (omega arith)) e),
  )

  -- a row that probes can rely on, and that has no improper key, counts what it holds
  pub table_finite : (code : K → ℕ) (proper : K → Bool) → Lawful alike code → (xs : List (Option (K × V))) → Probing alike code xs → ((k : K) → proper k ≡ false → value_at alike xs k ≡ None) → Finite alike proper (kept (table_names alike xs))
  table_finite code proper law xs ok none = record {
    keys = keys_in xs;
    apart = keys_apart law.self xs ok.apart;
    many = refl;
    exact = keys_exact xs;
    fit = λ k bad. ap is_some (none k bad);
  }
