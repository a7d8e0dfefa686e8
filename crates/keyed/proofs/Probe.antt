-- A probe over the slots: from its start to the end, and then from the beginning to its start. Assumes nothing.
use Rattle.std.proofs.Common.{◌≡◌, ℕ, ◌+◌, ◌-◌, ◌<◌, ◌≤◌, Bool, false, ◌||◌, ltb, List, length, get_or, take, drop, position, Some, None, Option, sym, ap, ◌∙◌, ⊎_elim, subst, arith, length-drop, length-take, get_or-drop, get_or-take}
use Rattle.std.proofs.lemmas.Bool.{or_cases, or_parts, cases_lt, cond-true, lt-ltb}
use Rattle.std.proofs.lemmas.List.Quantifiers.{position-Some}
use Rattle.std.proofs.lemmas.List.Sums.{fails_before_first}
use Rattle.std.proofs.lemmas.Option.{none-some}
use Rattle.std.specs.List.{position_or_len}
use Rattle.keyed.specs.Slots.{is_free, holds_key, gap, start, Passed, Ends, Through, Probed}
use Rattle.keyed.proofs.Ring.{gap-after, gap-before}

-- nothing passes where no position is found
position-None : {A : Type 0} (p : A → Bool) (xs : List A) (k : ℕ) (d : A) → position p xs ≡ None → k < length xs → p (get_or xs k d) ≡ false
position-None p xs k d e lt =
    ⊎_elim
    (λ less. absurd (none-some (position_or_len p xs) (sym e ∙ cond-true (ltb (position_or_len p xs) (length xs)) _ _ (lt-ltb _ _ less))))
    (λ le. fails_before_first p xs k d (omega arith))
    (cases_lt (position_or_len p xs) (length xs))

module _ {K V : Type 0} (alike : K → K → Bool) (code : K → ℕ) (xs : List (Option (K × V))) (k : K) (h : ℕ) (begins : h ≡ start code (length xs) k) (within : h < length xs) (front back : List (Option (K × V))) (before : front ≡ take h xs) (since : back ≡ drop h xs) where
  abbrev stops : Option (K × V) → Bool
  stops x = is_free x || holds_key alike k x

  passed : (x : Option (K × V)) → stops x ≡ false → Passed alike k x
  passed x on = let parts = or_parts (is_free x) (holds_key alike k x) on in record { taken_up = parts.0; other = parts.1 }

  -- a slot from h on, and one before it, as the two parts have them
  after : (j : ℕ) → h ≤ j → stops (get_or (drop h xs) (j - h) None) ≡ false → Passed alike k (get_or xs j None)
  after j le off = passed _ (ap (λ i. stops (get_or xs i None)) (omega arith) ∙ sym (ap stops (get_or-drop h xs (j - h) None)) ∙ off)

  ahead : (j : ℕ) → j < h → stops (get_or (take h xs) j None) ≡ false → Passed alike k (get_or xs j None)
  ahead j lt off = passed _ (sym (ap stops (get_or-take h xs j None lt)) ∙ off)

  abbrev steps : ℕ → ℕ
  steps j = gap (length xs) h j

  nearer : (i j : ℕ) → gap (length xs) (start code (length xs) k) j < gap (length xs) (start code (length xs) k) i → steps j < steps i
  nearer i j less = subst (λ z. gap (length xs) z j < gap (length xs) z i) (sym begins) less

  pub later : (s : ℕ) → position stops back ≡ Some s → Ends alike code xs k (h + s)
  later s found =
      let at = position-Some stops (drop h xs) s None (sym (ap (position stops) since) ∙ found) in
      let few : s < length xs - h = omega (arith, at.0, length-drop h xs) in
      record {
        within = omega arith;
        stops = or_cases _ _ (sym (ap stops (get_or-drop h xs s None)) ∙ at.1);
        before = λ j jn less.
            let near = nearer (h + s) j less in
            let far = gap-after (length xs) h (h + s) (omega arith) in
            ⊎_elim
            (λ lt. absurd (omega (arith, gap-before (length xs) h j lt within)))
            (λ le. after j le (at.2 (j - h) (omega (arith, gap-after (length xs) h j le))))
            (cases_lt j h);
      }

  module _ (none : position stops back ≡ None) where
    behind : (j : ℕ) → h ≤ j → j < length xs → Passed alike k (get_or xs j None)
    behind j le jn = after j le (position-None stops (drop h xs) (j - h) None (sym (ap (position stops) since) ∙ none) (omega (arith, length-drop h xs)))

    earlier : (s : ℕ) → position stops (take h xs) ≡ Some s → Ends alike code xs k s
    earlier s found =
        let at = position-Some stops (take h xs) s None found in
        let few : s < h = omega (arith, at.0, length-take h xs) in
        record {
          within = omega arith;
          stops = or_cases _ _ (sym (ap stops (get_or-take h xs s None few)) ∙ at.1);
          before = λ j jn less.
              let near = nearer s j less in
              let far = gap-before (length xs) h s few within in
              ⊎_elim
              (λ lt. ahead j lt (at.2 j (omega (arith, gap-before (length xs) h j lt within))))
              (λ le. behind j le jn)
              (cases_lt j h);
        }

    nowhere : position stops (take h xs) ≡ None → Through alike xs k
    nowhere full = record {
      all = λ j jn.
          ⊎_elim
          (λ lt. ahead j lt (position-None stops (take h xs) j None full (omega (arith, length-take h xs))))
          (λ le. behind j le jn)
          (cases_lt j h);
    }

    pub ending : (r : Option ℕ) → position stops front ≡ r → Probed alike code xs k r
    ending (Some s) found = earlier s (sym (ap (position stops) before) ∙ found)
    ending None full = nowhere (sym (ap (position stops) before) ∙ full)

-- of a row that is another, the same
module _ {K V : Type 0} {alike : K → K → Bool} {xs ys : List (Option (K × V))} {k : K} (same : xs ≡ ys) where
  pub ends-along : {code : K → ℕ} {i : ℕ} → Ends alike code xs k i → Ends alike code ys k i
  ends-along {code = code} {i = i} ends = subst (λ zs. Ends alike code zs k i) same ends

  pub through-along : Through alike xs k → Through alike ys k
  through-along through = subst (λ zs. Through alike zs k) same through
