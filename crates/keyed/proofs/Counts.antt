-- Lists of keys without repeats: how many keys are held follows from which are. Assumes nothing.
use Rattle.std.proofs.Common.{◌≡◌, ℕ, suc, ◌≤◌, Bool, true, false, cond, ◌||◌, List, [], ◌∷◌, ◌++◌, length, is_some, Some, sym, refl, ap, ◌∙◌, subst, ⊎_elim, arith}
use Rattle.std.proofs.lemmas.Bool.{both_ways, false≢true, cond-true, cond-false, cases_Bool, or_from, or_left, or_right, or_cases}
use Rattle.std.specs.Cmp.{both_ways as both}
use Rattle.std.proofs.Math.Bool.{or_assoc}
use Rattle.keys.specs.Keys.{Lawful}
use Rattle.keyed.specs.Meaning.{Names, Kept, kept, nothing, put, listed, NoRepeats, Finite}
use Rattle.keyed.proofs.Makes.{some_or}

or_none : (a b c : Bool) → (a ≡ true → c ≡ true) → c ≡ b → (a || c) ≡ b
or_none true b c f e = sym (f refl) ∙ e
or_none false b c f e = e

-- those that fail the test
abbrev pub others : {K : Type 0} → (K → Bool) → List K → List K
others p [] = []
others p (x ∷ xs) = cond (p x) (others p xs) (x ∷ others p xs)

module _ {K : Type 0} {alike : K → K → Bool} {code : K → ℕ} (law : Lawful alike code) where
  like : (a b x : K) → alike a b ≡ true → alike a x ≡ alike b x
  like a b x e = both (alike a x) (alike b x) (λ t. law.on b a x (law.back a b e) t) (λ t. law.on a b x e t)

  pub listed-like : (a b : K) → alike a b ≡ true → (ks : List K) → listed alike a ks ≡ listed alike b ks
  listed-like a b e [] = refl
  listed-like a b e (x ∷ ks) = λ j. like a b x e j || listed-like a b e ks j

  -- the list with the first key like a taken out
  abbrev without : K → List K → List K
  without a [] = []
  without a (x ∷ ks) = cond (alike a x) ks (x ∷ without a ks)

  without_shorter : (a : K) (ks : List K) → listed alike a ks ≡ true → suc (length (without a ks)) ≡ length ks
  without_shorter a [] e = absurd (false≢true e)
  without_shorter a (x ∷ ks) e =
      ⊎_elim
      (λ ax. ap (λ l. suc (length l)) (cond-true (alike a x) ks (x ∷ without a ks) ax))
      (λ ax. ap (λ l. suc (length l)) (cond-false (alike a x) ks (x ∷ without a ks) ax) ∙ ap suc (without_shorter a ks (⊎_elim (λ t. absurd (both_ways _ ax t)) (λ h. h) (or_cases _ _ e))))
      (cases_Bool (alike a x))

  without_rest : (a k : K) (ks : List K) → alike k a ≡ false → listed alike k ks ≡ true → listed alike k (without a ks) ≡ true
  without_rest a k [] f e = e
  without_rest a k (x ∷ ks) f e =
      ⊎_elim
      (λ ax. subst (λ l. listed alike k l ≡ true) (sym (cond-true (alike a x) ks (x ∷ without a ks) ax))
      (⊎_elim (λ kx. absurd (both_ways _ f (law.on k x a kx (law.back a x ax)))) (λ h. h) (or_cases _ _ e)))
      (λ ax. subst (λ l. listed alike k l ≡ true) (sym (cond-false (alike a x) ks (x ∷ without a ks) ax))
      (⊎_elim (λ kx. or_left _ _ kx) (λ h. or_right _ _ (without_rest a k ks f h)) (or_cases _ _ e)))
      (cases_Bool (alike a x))

  -- a list without repeats is no longer than one that has all its keys
  pub no_longer : (xs ys : List K) → NoRepeats alike xs → ((k : K) → listed alike k xs ≡ true → listed alike k ys ≡ true) → length xs ≤ length ys
  no_longer [] ys apart all = omega arith
  no_longer (x ∷ xs) ys apart all =
      let here : listed alike x ys ≡ true = all x (or_left _ _ (law.self x)) in
      let rest : length xs ≤ length (without x ys) =
      no_longer xs (without x ys) apart.1
      (λ k e. without_rest x k ys
      (⊎_elim (λ kx. absurd (both_ways _ apart.0 (sym (listed-like k x kx xs) ∙ e))) (λ f. f) (cases_Bool (alike k x)))
      (all k (or_right (alike k x) (listed alike k xs) e))) in
      omega (arith, without_shorter x ys here)

  pub same_length : (xs ys : List K) → NoRepeats alike xs → NoRepeats alike ys → ((k : K) → listed alike k xs ≡ listed alike k ys) → length xs ≡ length ys
  same_length xs ys ax ay same =
      omega (arith, no_longer xs ys ax (λ k e. sym (same k) ∙ e), no_longer ys xs ay (λ k e. same k ∙ e))

  -- how many are held follows from which are
  pub count_follows : {proper : K → Bool} (m n : Kept K) → Finite alike proper m → Finite alike proper n → ((k : K) → m.has k ≡ n.has k) → m.count ≡ n.count
  count_follows m n fm fn same =
      sym fm.many ∙ same_length fm.keys fn.keys fm.apart fn.apart (λ k. sym (fm.exact k) ∙ same k ∙ fn.exact k) ∙ fn.many

  pub listed-append : (k : K) (xs ys : List K) → listed alike k (xs ++ ys) ≡ (listed alike k xs || listed alike k ys)
  listed-append k [] ys = refl
  listed-append k (x ∷ xs) ys = ap (λ b. alike k x || b) (listed-append k xs ys) ∙ sym (or_assoc (alike k x) (listed alike k xs) (listed alike k ys))

  pub apart_append : (xs ys : List K) → NoRepeats alike xs → NoRepeats alike ys → ((k : K) → listed alike k xs ≡ true → listed alike k ys ≡ false) → NoRepeats alike (xs ++ ys)
  apart_append [] ys ax ay none = ay
  apart_append (x ∷ xs) ys ax ay none = (
    listed-append x xs ys ∙ or_from (listed alike x xs) (listed alike x ys) ax.0 (none x (or_left _ _ (law.self x))),
    apart_append xs ys ax.1 ay (λ k e. none k (or_right (alike k x) (listed alike k xs) e)),
  )

  module _ (p : K → Bool) (fair : (a b : K) → alike a b ≡ true → p a ≡ p b) where
    pub listed-others : (k : K) (xs : List K) → listed alike k (others p xs) ≡ cond (p k) false (listed alike k xs)
    listed-others k [] = ⊎_elim (λ t. sym (cond-true (p k) false false t)) (λ f. sym (cond-false (p k) false false f)) (cases_Bool (p k))
    listed-others k (x ∷ xs) =
        ⊎_elim
        (λ px. ap (listed alike k) (cond-true (p x) (others p xs) (x ∷ others p xs) px) ∙ listed-others k xs ∙
        ⊎_elim
        (λ pk. cond-true (p k) false _ pk ∙ sym (cond-true (p k) false _ pk))
        (λ pk. ap (λ b. cond (p k) false (b || listed alike k xs)) (sym (⊎_elim (λ kx. absurd (both_ways _ pk (fair k x kx ∙ px))) (λ f. f) (cases_Bool (alike k x)))))
        (cases_Bool (p k)))
        (λ px. ap (listed alike k) (cond-false (p x) (others p xs) (x ∷ others p xs) px) ∙ ap (λ b. alike k x || b) (listed-others k xs) ∙
        ⊎_elim
        (λ pk. ap (λ b. alike k x || b) (cond-true (p k) false (listed alike k xs) pk) ∙ or_from (alike k x) false (⊎_elim (λ kx. absurd (both_ways _ px (sym (fair k x kx) ∙ pk))) (λ f. f) (cases_Bool (alike k x))) refl ∙ sym (cond-true (p k) false _ pk))
        (λ pk. ap (λ b. alike k x || b) (cond-false (p k) false (listed alike k xs) pk) ∙ sym (cond-false (p k) false (alike k x || listed alike k xs) pk))
        (cases_Bool (p k)))
        (cases_Bool (p x))

    pub apart_others : (xs : List K) → NoRepeats alike xs → NoRepeats alike (others p xs)
    apart_others [] a = tt
    apart_others (x ∷ xs) a =
        ⊎_elim
        (λ px. subst (NoRepeats alike) (sym (cond-true (p x) (others p xs) (x ∷ others p xs) px)) (apart_others xs a.1))
        (λ px. subst (NoRepeats alike) (sym (cond-false (p x) (others p xs) (x ∷ others p xs) px)) (listed-others x xs ∙ cond-false (p x) false (listed alike x xs) px ∙ a.0, apart_others xs a.1))
        (cases_Bool (p x))

  -- what holds nothing
  pub nothing-finite : (proper : K → Bool) (V : Type 0) → Finite alike proper (kept (nothing {K = K} {V = V}))
  nothing-finite proper V = record { keys = []; apart = tt; many = refl; exact = λ k. refl; fit = λ k _. refl }

  -- an entry of a proper key leaves the count right
  pub put-finite : {V : Type 0} (proper : K → Bool) → ((a b : K) → alike a b ≡ true → proper a ≡ proper b) → (m : Names K V) (k : K) (v : V) → proper k ≡ true → Finite alike proper (kept m) → Finite alike proper (kept (put alike m k v))
  put-finite proper suited m k v fits fin =
      let fit : (q : K) → proper q ≡ false → is_some (cond (alike q k) (Some v) (m.find q)) ≡ false =
      λ q bad. some_or (alike q k) v (m.find q) ∙ or_from (alike q k) (is_some (m.find q)) (⊎_elim (λ t. absurd (both_ways _ bad (suited q k t ∙ fits))) (λ f. f) (cases_Bool (alike q k))) (fin.fit q bad) in
      let one : Bool → ℕ = λ b. cond b 0 1 in
      ⊎_elim
      (λ here. record {
        keys = fin.keys;
        apart = fin.apart;
        many = fin.many ∙ omega (arith, ap one here);
        exact = λ q. some_or (alike q k) v (m.find q) ∙ or_none (alike q k) (listed alike q fin.keys) (is_some (m.find q)) (λ t. fin.exact q ∙ listed-like q k t fin.keys ∙ sym (fin.exact k) ∙ here) (fin.exact q);
        fit = fit;
      })
      (λ new. record {
        keys = k ∷ fin.keys;
        apart = (sym (fin.exact k) ∙ new, fin.apart);
        many = omega (arith, fin.many, ap one new);
        exact = λ q. some_or (alike q k) v (m.find q) ∙ ap (λ b. alike q k || b) (fin.exact q);
        fit = fit;
      })
      (cases_Bool (is_some (m.find k)))
