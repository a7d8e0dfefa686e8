-- What a row of slots means, and what a store into one slot makes of it. Assumes nothing.
use Rattle.std.proofs.Common.{◌≡◌, ℕ, zero, suc, ◌+◌, ◌%◌, ◌<◌, ◌≤◌, Bool, true, false, cond, ltb, ◌⊎◌, List, [], ◌∷◌, length, get_or, replicate, set, is_some, Some, None, Option, sym, refl, ap, ◌∙◌, subst, ⊎_elim, mod-lt, arith, length-set, get_or-set_other, get_or-set_same}
use mathlib.Core.Path.{fun_ext}
use Rattle.std.proofs.lemmas.Bool.{both_ways, false≢true, cond-true, cond-false, cases_Bool, cases_eq, cases_order, or_from, or_left, or_right, lt-ltb, le-ltb}
use Rattle.keys.specs.Keys.{Lawful}
use Rattle.keyed.proofs.Makes.{value_none, value_hit, value_kept}
use Rattle.keyed.specs.Meaning.{Names, nothing, put}
use Rattle.keyed.specs.Slots.{holds_key, is_free, value_in, value_at, gap, start, Ends, Through, Probed, Reached, Apart, Probing, keys_in, table_names, room_in}
use Rattle.keyed.proofs.Ring.{gap_same}

some_cond : {A : Type 0} (b : Bool) (x : A) (o : Option A) → (b ≡ false → is_some o ≡ true) → is_some (cond b (Some x) o) ≡ true
some_cond true x o h = refl
some_cond false x o h = h refl

abbrev update : {K V : Type 0} → (K → K → Bool) → (K → Option V) → K → V → K → Option V
update alike m k v q = cond (alike q k) (Some v) (m q)

free : {A : Type 0} (n j : ℕ) → get_or (replicate {A = Option A} n None) j None ≡ None
free zero j = refl
free (suc n) zero = refl
free (suc n) (suc j) = free n j

keys_free : (K V : Type 0) (n : ℕ) → length (keys_in (replicate {A = Option (K × V)} n None)) ≡ 0
keys_free K V zero = refl
keys_free K V (suc n) = keys_free K V n

module _ {K V : Type 0} (alike : K → K → Bool) where
  pub holds_held : (xs : List (Option (K × V))) (k : K) (j : ℕ) → j < length xs → holds_key alike k (get_or xs j None) ≡ true → is_some (value_at alike xs k) ≡ true
  holds_held [] k j lt e = absurd (omega arith)
  holds_held (None ∷ xs) k zero lt e = absurd (false≢true e)
  holds_held (Some (q, v) ∷ xs) k zero lt e = some_cond _ v _ (λ f. absurd (both_ways _ f e))
  holds_held (None ∷ xs) k (suc j) lt e = holds_held xs k j (omega arith) e
  holds_held (Some (q, v) ∷ xs) k (suc j) lt e = some_cond (alike k q) v _ (λ _. holds_held xs k j (omega arith) e)

  keys_few : (xs : List (Option (K × V))) → length (keys_in xs) ≤ length xs
  keys_few [] = omega arith
  keys_few (None ∷ xs) = omega (arith, keys_few xs)
  keys_few (Some (q, v) ∷ xs) = omega (arith, keys_few xs)

  keys_fewer : (xs : List (Option (K × V))) (j : ℕ) → j < length xs → is_free (get_or xs j None) ≡ true → length (keys_in xs) < length xs
  keys_fewer [] j lt e = absurd (omega arith)
  keys_fewer (None ∷ xs) zero lt e = omega (arith, keys_few xs)
  keys_fewer (Some (q, v) ∷ xs) zero lt e = absurd (false≢true e)
  keys_fewer (None ∷ xs) (suc j) lt e = omega (arith, keys_fewer xs j (omega arith) e)
  keys_fewer (Some (q, v) ∷ xs) (suc j) lt e = omega (arith, keys_fewer xs j (omega arith) e)

  -- where no slot is free, as many keys are held as there are slots
  keys_full : (xs : List (Option (K × V))) → ((j : ℕ) → j < length xs → is_free (get_or xs j None) ≡ false) → length (keys_in xs) ≡ length xs
  keys_full [] full = refl
  keys_full (None ∷ xs) full = absurd (both_ways _ (full 0 (omega arith)) refl)
  keys_full (Some (q, v) ∷ xs) full = ap suc (keys_full xs (λ j lt. full (suc j) (omega arith)))

  -- a store takes up a slot that was free
  keys_set : (xs : List (Option (K × V))) (i : ℕ) (k : K) (v : V) → i < length xs → length (keys_in (set xs i (Some (k, v)))) ≡ length (keys_in xs) + cond (is_free (get_or xs i None)) 1 0
  keys_set [] i k v lt = absurd (omega arith)
  keys_set (None ∷ xs) zero k v lt = omega arith
  keys_set (Some (q, w) ∷ xs) zero k v lt = omega arith
  keys_set (None ∷ xs) (suc i) k v lt = keys_set xs i k v (omega arith)
  keys_set (Some (q, w) ∷ xs) (suc i) k v lt = omega (arith, keys_set xs i k v (omega arith))

module _ {K V : Type 0} {alike : K → K → Bool} {xs : List (Option (K × V))} {k : K} (through : Through alike xs k) where
  -- where every slot is passed, the key has no room
  pub full_no_room : room_in alike xs k ≡ false
  full_no_room =
      or_from (is_some (value_at alike xs k)) (ltb (length (keys_in xs)) (length xs)) (ap is_some (value_none alike xs k (λ j lt. (through.all j lt).other)))
      (le-ltb (length (keys_in xs)) (length xs) (omega (arith, keys_full alike xs (λ j lt. (through.all j lt).taken_up))))

  -- and no value
  pub not_found : value_at alike xs k ≡ None
  not_found = value_none alike xs k (λ j lt. (through.all j lt).other)

abbrev names : {K V : Type 0} → (K → Option V) → ℕ → Names K V
names f n = record { find = f; count = n }

module _ {K V : Type 0} {alike : K → K → Bool} {code : K → ℕ} (law : Lawful alike code) where
  module _ {xs : List (Option (K × V))} (ok : Probing alike code xs) {k : K} {i : ℕ} (ends : Ends alike code xs k i) where
    -- no other slot has the key
    pub others : (j : ℕ) → j < length xs → (j ≡ i → ⊥) → holds_key alike k (get_or xs j None) ≡ false
    others j jn ne =
        let h = start code (length xs) k in
        let begins : h < length xs = mod-lt (code k) (omega arith) in
        ⊎_elim
        (λ free. ⊎_elim
        (λ same. absurd (ne (gap_same (length xs) h j i jn ends.within begins same)))
        (⊎_elim (λ less. (ends.before j jn less).other) (λ more. ok.reached k i j ends.within jn free more))
        (cases_order (gap (length xs) h j) (gap (length xs) h i)))
        (λ has. ok.apart k i j ends.within jn (λ e. ne (sym e)) has)
        ends.stops

    -- the key's value is that of the slot
    pub found : value_at alike xs k ≡ value_in (get_or xs i None)
    found =
        ⊎_elim
        (λ free. value_none alike xs k (λ j jn. ⊎_elim (λ e. subst (λ m. holds_key alike k (get_or xs m None) ≡ false) (sym e) (free_none (get_or xs i None) free)) (others j jn) (cases_eq j i))
        ∙ sym (free_value (get_or xs i None) free))
        (λ has. value_hit alike xs k i ends.within (λ j l. others j (omega arith) (λ e. omega arith)) has)
        ends.stops
      where
        free_none : (x : Option (K × V)) → is_free x ≡ true → holds_key alike k x ≡ false
        free_none None e = refl
        free_none (Some (q, v)) e = absurd (false≢true e)

        free_value : (x : Option (K × V)) → is_free x ≡ true → value_in x ≡ None
        free_value None e = refl
        free_value (Some (q, v)) e = absurd (false≢true e)

    pub has_room : room_in alike xs k ≡ true
    has_room =
        ⊎_elim
        (λ free. or_right (is_some (value_at alike xs k)) _ (lt-ltb (length (keys_in xs)) (length xs) (keys_fewer alike xs i ends.within free)))
        (λ has. or_left (is_some (value_at alike xs k)) _ (holds_held alike xs k i ends.within has))
        ends.stops

  pub probed_room : {xs : List (Option (K × V))} → Probing alike code xs → (k : K) (r : Option ℕ) → Probed alike code xs k r → room_in alike xs k ≡ is_some r
  probed_room ok k None through = full_no_room through
  probed_room ok k (Some i) ends = has_room ok ends

  module _ {xs : List (Option (K × V))} (ok : Probing alike code xs) {k : K} {i : ℕ} (ends : Ends alike code xs k i) (v : V) where
    -- what stands at j after the store
    at_set : (P : Option (K × V) → Type 0) (j : ℕ) → (j ≡ i → P (Some (k, v))) → ((j ≡ i → ⊥) → P (get_or xs j None)) → P (get_or (set xs i (Some (k, v))) j None)
    at_set P j here there =
        ⊎_elim
        (λ e. subst P (sym (ap (λ m. get_or (set xs i (Some (k, v))) m None) e ∙ get_or-set_same xs i (Some (k, v)) None ends.within)) (here e))
        (λ ne. subst P (sym (get_or-set_other xs i j (Some (k, v)) None ne)) (there ne))
        (cases_eq j i)

    -- what was at i was k or nothing
    pub was : (q : K) → alike q k ≡ false → holds_key alike q (get_or xs i None) ≡ false
    was q f = either (get_or xs i None) ends.stops where
      either : (x : Option (K × V)) → (is_free x ≡ true) ⊎ (holds_key alike k x ≡ true) → holds_key alike q x ≡ false
      either None e = refl
      either (Some (a, w)) e =
          ⊎_elim (λ t. absurd (both_ways _ f (law.on q a k t (law.back k a (⊎_elim (λ z. absurd (false≢true z)) (λ z. z) e))))) (λ z. z) (cases_Bool (alike q a))

    count_stored : length (keys_in (set xs i (Some (k, v)))) ≡ length (keys_in xs) + cond (is_some (value_at alike xs k)) 0 1
    count_stored = keys_set alike xs i k v ends.within ∙ ap (λ n. length (keys_in xs) + n) (turned (get_or xs i None) ∙ ap (λ (o : Option V). cond (is_some o) 0 1) (sym (found ok ends)))
      where
        turned : (x : Option (K × V)) → ◌≡◌ {A = ℕ} (cond (is_free x) 1 0) (cond (is_some (value_in x)) 0 1)
        turned None = refl
        turned (Some (q, w)) = refl

    reached_set : Reached alike code (length xs) (set xs i (Some (k, v)))
    reached_set q a b an bn =
        at_set (λ x. is_free x ≡ true → gap (length xs) (start code (length xs) q) a < gap (length xs) (start code (length xs) q) b → holds_key alike q (get_or (set xs i (Some (k, v))) b None) ≡ false) a
        (λ _ e. absurd (false≢true e))
        (λ ai free less. at_set (λ x. holds_key alike q x ≡ false) b
        (λ bi. ⊎_elim
        (λ qk.
        let same : start code (length xs) q ≡ start code (length xs) k = ap (λ z. z % length xs) (law.coded q k qk) in
        let less' : gap (length xs) (start code (length xs) k) a < gap (length xs) (start code (length xs) k) i =
        subst (λ s. gap (length xs) s a < gap (length xs) s i) same (subst (λ m. gap (length xs) (start code (length xs) q) a < gap (length xs) (start code (length xs) q) m) bi less) in
        absurd (both_ways _ (ends.before a an less').taken_up free))
        (λ f. f)
        (cases_Bool (alike q k)))
        (λ bi. ok.reached q a b an bn free less))

    -- a key like k is in no other slot
    else_where : (q : K) (j : ℕ) → alike q k ≡ true → j < length xs → (j ≡ i → ⊥) → holds_key alike q (get_or xs j None) ≡ false
    else_where q j qk jn ne = like (get_or xs j None) (others ok ends j jn ne) where
      like : (x : Option (K × V)) → holds_key alike k x ≡ false → holds_key alike q x ≡ false
      like None e = refl
      like (Some (a, w)) e = ⊎_elim (λ qa. absurd (both_ways _ e (law.on k q a (law.back q k qk) qa))) (λ z. z) (cases_Bool (alike q a))

    value_stored : (q : K) → value_at alike (set xs i (Some (k, v))) q ≡ update alike (value_at alike xs) k v q
    value_stored q =
        ⊎_elim
        (λ qk.
        let here = get_or-set_same xs i (Some (k, v)) None ends.within in
        value_hit alike (set xs i (Some (k, v))) q i (omega (arith, length-set xs i (Some (k, v)), ends.within))
        (λ j jn. ap (holds_key alike q) (get_or-set_other xs i j (Some (k, v)) None (λ e. omega arith)) ∙ else_where q j qk (omega (arith, ends.within)) (λ e. omega arith))
        (ap (holds_key alike q) here ∙ qk)
        ∙ ap value_in here ∙ sym (cond-true (alike q k) _ _ qk))
        (λ no. value_kept alike xs q i (Some (k, v)) (was q no) no ∙ sym (cond-false (alike q k) _ _ no))
        (cases_Bool (alike q k))

    -- the row means what it meant, but for k
    pub stored : table_names alike (set xs i (Some (k, v))) ≡ put alike (table_names alike xs) k v
    stored = λ j. names (fun_ext value_stored j) (count_stored j)

    apart_set : Apart alike (length xs) (set xs i (Some (k, v)))
    apart_set q a b an bn ab =
        at_set (λ x. holds_key alike q x ≡ true → holds_key alike q (get_or (set xs i (Some (k, v))) b None) ≡ false) a
        (λ ai qk. at_set (λ x. holds_key alike q x ≡ false) b (λ bi. absurd (ab (ai ∙ sym bi))) (λ bi. else_where q b qk bn bi))
        (λ ai has. at_set (λ x. holds_key alike q x ≡ false) b
        (λ bi. ⊎_elim (λ qk. absurd (both_ways _ (else_where q a qk an ai) has)) (λ z. z) (cases_Bool (alike q k)))
        (λ bi. ok.apart q a b an bn ab has))

    pub probing_set : Probing alike code (set xs i (Some (k, v)))
    probing_set =
        let long = sym (length-set xs i (Some (k, v))) in
        record {
          reached = subst (λ n. Reached alike code n (set xs i (Some (k, v)))) long reached_set;
          apart = subst (λ n. Apart alike n (set xs i (Some (k, v)))) long apart_set;
        }

  -- a row with nothing in it
  pub probing_none : (n : ℕ) → Probing {V = V} alike code (replicate {A = Option (K × V)} n None)
  probing_none n = record {
    reached = λ k i j li lj _ _. none k j;
    apart = λ k i j li lj _ _. none k j;
  } where
    none : (k : K) (j : ℕ) → holds_key alike k (get_or (replicate {A = Option (K × V)} n None) j None) ≡ false
    none k j = ap (holds_key alike k) (free n j)

  value_fresh : (n : ℕ) (k : K) → value_at alike (replicate {A = Option (K × V)} n None) k ≡ None
  value_fresh zero k = refl
  value_fresh (suc n) k = value_fresh n k

  pub fresh : (n : ℕ) → table_names alike (replicate {A = Option (K × V)} n None) ≡ nothing
  fresh n = λ j. names (fun_ext (value_fresh n) j) (keys_free K V n j)
