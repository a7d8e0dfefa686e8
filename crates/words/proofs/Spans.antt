-- Where a run of words ends in a line. Assumes nothing.
use Rattle.std.proofs.Common.{◌≡◌, ℕ, zero, suc, ◌+◌, ◌<◌, ◌≤◌, Bool, true, false, cond, ◌&&◌, ltb, leb, List, [], ◌∷◌, ◌++◌, length, map, filter, get_or, take, drop, IfSome, Some, None, Option, sym, refl, ap, ◌∙◌, ⊎_elim, suc-add, zero-add, arith, length-take}
use lib.ListN.{length-map}
use Rattle.std.specs.List.{slice_get, enumerate_from}
use Rattle.std.specs.Option.{option_map}
use Rattle.std.proofs.lemmas.Bool.{cond-true, cond-false, cases_Bool, lt-ltb, cases_lt, lt-leb, le-leb, and_from}
use Rattle.std.proofs.lemmas.List.Splits.{slice_split-cons_yes, slice_split-cons_no}
use Rattle.std.proofs.lemmas.Option.{slice_get_within, slice_get-get_or, slice_get_past}
use Rattle.words.specs.Words.{separates, words_of, longer, front_of}
use Rattle.words.specs.Joined.{unwords, as_space}
use Rattle.words.proofs.Cut.{words_count}
use Rattle.words.proofs.Bytes.{spaces-words}

-- the places at which the words of a text end
abbrev pub ends : List ℕ → List ℕ
ends [] = 0 ∷ []
ends (b ∷ bs) = cond (separates b) (0 ∷ map suc (ends bs)) (map suc (ends bs))

shift : (i : ℕ) (l : List ℕ) → map (λ e. i + e) (map suc l) ≡ map (λ e. i + 1 + e) l
shift i [] = refl
shift i (e ∷ l) =
    let n : i + suc e ≡ i + 1 + e = omega arith in
    ap (λ n. n ∷ map (λ d. i + d) (map suc l)) n ∙ ap (λ m. (i + 1 + e) ∷ m) (shift i l)

-- they are the places of the separators, and the end
ends_is : (i : ℕ) (xs : List ℕ) → map (λ p. p.0) (filter (λ p. separates p.1) (enumerate_from i xs)) ++ (i + length xs) ∷ [] ≡ map (λ e. i + e) (ends xs)
ends_is i [] = refl
ends_is i (b ∷ bs) = by (separates b) (ends_is (i + 1) bs ∙ sym (shift i (ends bs)))
  where
    from : List ℕ
    from = map (λ p. p.0) (filter (λ p. separates p.1) (enumerate_from (i + 1) bs))

    by : (t : Bool) → from ++ (i + 1 + length bs) ∷ [] ≡ map (λ e. i + e) (map suc (ends bs)) → map (λ p. p.0) (cond t ((i, b) ∷ filter (λ p. separates p.1) (enumerate_from (i + 1) bs)) (filter (λ p. separates p.1) (enumerate_from (i + 1) bs))) ++ (i + length (b ∷ bs)) ∷ [] ≡ map (λ e. i + e) (cond t (0 ∷ map suc (ends bs)) (map suc (ends bs)))
    by true h = let z : i ≡ i + 0 = omega arith in let n : i + length (b ∷ bs) ≡ i + 1 + length bs = omega arith in rw n (ap (λ l. i ∷ l) h ∙ ap (λ j. j ∷ map (λ e. i + e) (map suc (ends bs))) z)
    by false h = let n : i + length (b ∷ bs) ≡ i + 1 + length bs = omega arith in rw n h

unshifted : (l : List ℕ) → map (λ e. 0 + e) l ≡ l
unshifted [] = refl
unshifted (e ∷ l) = ap (λ n. n ∷ map (λ d. 0 + d) l) (zero-add e) ∙ ap (λ m. e ∷ m) (unshifted l)

pub ends_all : (xs : List ℕ) → map (λ p. p.0) (filter (λ p. separates p.1) (enumerate_from 0 xs)) ++ length xs ∷ [] ≡ ends xs
ends_all xs = rw (← zero-add (length xs)) (ends_is 0 xs ∙ unshifted (ends xs))

-- as many as there are words
ends_many : (xs : List ℕ) → length (ends xs) ≡ length (words_of xs)
ends_many [] = refl
ends_many (b ∷ bs) = by (separates b) (words_of bs) (words_count bs).0 (length-map (ends bs) suc ∙ ends_many bs)
  where
    by : (t : Bool) (ws : List (List ℕ)) → 0 < length ws → length (map suc (ends bs)) ≡ length ws → length (cond t (0 ∷ map suc (ends bs)) (map suc (ends bs))) ≡ length (cond t ([] ∷ ws) (longer b ws))
    by t [] p h = absurd (omega arith)
    by true (w ∷ ws) p h = ap suc h
    by false (w ∷ ws) p h = h

take-longer : (k b : ℕ) (l : List (List ℕ)) → 0 < length l → take (suc k) (longer b l) ≡ longer b (take (suc k) l)
take-longer k b [] h = absurd (omega arith)
take-longer k b (w ∷ l) h = refl

drop-longer : (k b : ℕ) (l : List (List ℕ)) → 0 < length l → drop (suc k) (longer b l) ≡ drop (suc k) l
drop-longer k b [] h = absurd (omega arith)
drop-longer k b (w ∷ l) h = refl

-- what is known where the k-th word ends
pub record Ends (xs : List ℕ) (k e : ℕ) : Type 0 where
  pub within : e ≤ length xs
  pub front : words_of (take e xs) ≡ take k (words_of xs)
  pub back : e < length xs → words_of (drop (e + 1) xs) ≡ drop k (words_of xs)
  pub last : length xs ≤ e → drop k (words_of xs) ≡ []

-- the first word ends where a separator stands
ends-one : (b : ℕ) (bs : List ℕ) → separates b ≡ true → Ends (b ∷ bs) 1 0
ends-one b bs s = record {
  within = omega arith;
  front = sym (ap (take 1) (slice_split-cons_yes separates b bs s));
  back = λ _. sym (ap (drop 1) (slice_split-cons_yes separates b bs s));
  last = λ h. absurd (omega arith);
}

ends-sep : (b : ℕ) (bs : List ℕ) (k e : ℕ) → separates b ≡ true → Ends bs (suc k) e → Ends (b ∷ bs) (suc (suc k)) (suc e)
ends-sep b bs k e s t =
    let ws = slice_split-cons_yes separates b bs s in
    record {
      within = omega (arith, t.within);
      front = slice_split-cons_yes separates b (take e bs) s ∙ ap (λ l. [] ∷ l) t.front ∙ sym (ap (take (suc (suc k))) ws);
      back = λ h. rw suc-add (t.back (omega arith) ∙ sym (ap (drop (suc (suc k))) ws));
      last = λ h. ap (drop (suc (suc k))) ws ∙ t.last (omega arith);
    }

ends-in : (b : ℕ) (bs : List ℕ) (k e : ℕ) → separates b ≡ false → Ends bs (suc k) e → Ends (b ∷ bs) (suc k) (suc e)
ends-in b bs k e s t =
    let ws = slice_split-cons_no separates b bs s in
    let some = (words_count bs).0 in
    record {
      within = omega (arith, t.within);
      front = slice_split-cons_no separates b (take e bs) s ∙ ap (longer b) t.front ∙ sym (ap (take (suc k)) ws ∙ take-longer k b (words_of bs) some);
      back = λ h. rw suc-add (t.back (omega arith) ∙ sym (ap (drop (suc k)) ws ∙ drop-longer k b (words_of bs) some));
      last = λ h. ap (drop (suc k)) ws ∙ drop-longer k b (words_of bs) some ∙ t.last (omega arith);
    }

behind : (l : List ℕ) (j e : ℕ) → slice_get (map suc l) j ≡ Some e → (d : ℕ) × ((e ≡ suc d) × (slice_get l j ≡ Some d))
behind [] j e h = cc
behind (d ∷ l) zero e h = (d, (let same : suc d ≡ e = cc in sym same, refl))
behind (d ∷ l) (suc j) e h = behind l j e h

-- each of the places is such an end
ends_at : (xs : List ℕ) (k e : ℕ) → slice_get (ends xs) k ≡ Some e → Ends xs (suc k) e
ends_at [] zero e h = let same : 0 ≡ e = cc in rw (← same) (record { within = omega arith; front = refl; back = λ h. absurd (omega arith); last = λ _. refl })
ends_at [] (suc k) e h = cc
ends_at (b ∷ bs) zero e h = ⊎_elim
    (λ s. let same : Some 0 ≡ Some e = sym (ap (λ l. slice_get l 0) (cond-true (separates b) (0 ∷ map suc (ends bs)) (map suc (ends bs)) s)) ∙ h in let zero : 0 ≡ e = cc in rw (← zero) (ends-one b bs s))
    (λ s. let m = behind (ends bs) 0 e (sym (ap (λ l. slice_get l 0) (cond-false (separates b) (0 ∷ map suc (ends bs)) (map suc (ends bs)) s)) ∙ h) in rw m.1.0 (ends-in b bs 0 m.0 s (ends_at bs 0 m.0 m.1.1)))
    (cases_Bool (separates b))
ends_at (b ∷ bs) (suc k) e h = ⊎_elim
    (λ s. let m = behind (ends bs) k e (sym (ap (λ l. slice_get l (suc k)) (cond-true (separates b) (0 ∷ map suc (ends bs)) (map suc (ends bs)) s)) ∙ h) in rw m.1.0 (ends-sep b bs k m.0 s (ends_at bs k m.0 m.1.1)))
    (λ s. let m = behind (ends bs) (suc k) e (sym (ap (λ l. slice_get l (suc k)) (cond-false (separates b) (0 ∷ map suc (ends bs)) (map suc (ends bs)) s)) ∙ h) in rw m.1.0 (ends-in b bs (suc k) m.0 s (ends_at bs (suc k) m.0 m.1.1)))
    (cases_Bool (separates b))

-- how long the first k words are, joined
abbrev pub end_of : ℕ → List (List ℕ) → Option ℕ
end_of k ws = option_map length (option_map unwords (front_of k ws))

front-some : (k : ℕ) (ws : List (List ℕ)) → 0 < k → k ≤ length ws → front_of k ws ≡ Some (take k ws)
front-some k ws p h = cond-true (ltb 0 k && leb k (length ws)) _ _ (and_from (ltb 0 k) (leb k (length ws)) (lt-ltb 0 k p) (le-leb k (length ws) h))

ending : (xs : List ℕ) (k : ℕ) → k < length (words_of xs) → (e : ℕ) × (slice_get (ends xs) k ≡ Some e)
ending xs k h = (get_or (ends xs) k 0, slice_get-get_or (ends xs) k 0 (omega (arith, ends_many xs)))

-- the place is the length of the joined words
pub end_at : (xs : List ℕ) (k : ℕ) → slice_get (ends xs) k ≡ end_of (suc k) (words_of xs)
end_at xs k = ⊎_elim
    (λ few.
    let m = ending xs k few in
    let e = m.0 in
    let t = ends_at xs k e m.1 in
    let long : e ≡ length (unwords (take (suc k) (words_of xs))) = omega (arith, t.within, length-take e xs, length-map (take e xs) as_space, ap length (spaces-words (take e xs)), ap (λ l. length (unwords l)) t.front) in
    m.1 ∙ ap Some long ∙ sym (ap (λ o. option_map length (option_map unwords o)) (front-some (suc k) (words_of xs) (omega arith) few)))
    (λ many. slice_get_past (ends xs) k (omega (arith, ends_many xs)) ∙ sym (ap (λ o. option_map length (option_map unwords o)) (cond-false (ltb 0 (suc k) && leb (suc k) (length (words_of xs))) _ _ (rw (lt-ltb 0 (suc k) (omega arith), lt-leb (suc k) (length (words_of xs)) (omega arith)) refl))))
    (cases_lt k (length (words_of xs)))

-- what a place that was found says
pub record Found (xs : List ℕ) (k e : ℕ) : Type 0 where
  pub some : 0 < k
  pub many : k ≤ length (words_of xs)
  pub words : front_of k (words_of xs) ≡ Some (take k (words_of xs))
  pub ending : Ends xs k e

pub found : (xs : List ℕ) (k e : ℕ) → Some e ≡ end_of k (words_of xs) → Found xs k e
found xs zero e h = cc
found xs (suc k) e h =
    let at : slice_get (ends xs) k ≡ Some e = end_at xs k ∙ sym h in
    let many : suc k ≤ length (words_of xs) = omega (arith, slice_get_within (ends xs) k e at, ends_many xs) in
    record { some = omega arith; many = many; words = front-some (suc k) (words_of xs) (omega arith) many; ending = ends_at xs k e at }

pub within_of : (xs : List ℕ) (k : ℕ) (r : Option ℕ) → r ≡ end_of k (words_of xs) → IfSome r (λ e. (e ≤ length xs) × (k ≤ length (words_of xs)))
within_of xs k None h = tt
within_of xs k (Some e) h = let f = found xs k e h in (f.ending.within, f.many)

-- k words have at least k - 1 bytes
pub found_long : (xs : List ℕ) (k e : ℕ) → Found xs k e → k ≤ e + 1
found_long xs k e f =
    let long = ap length f.ending.front ∙ length-take k (words_of xs) in
    omega (arith, f.many, words_count (take e xs), length-take e xs)
