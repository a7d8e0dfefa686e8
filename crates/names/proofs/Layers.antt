-- Texts written over a memory, one behind the other. Assumes nothing.
use Rattle.std.proofs.Common.{◌≡◌, ℕ, zero, suc, ◌+◌, ◌-◌, ◌≤◌, min, leb, List, [], ◌∷◌, ◌++◌, length, take, drop, Some, None, Option, sym, refl, ap, ◌∙◌, ⊎_elim, append_assoc, suc-add, zero-add, arith, length-append, Bor}
use lib.ListN.{length-map}
use Rattle.words.specs.Words.{ahead, size_left}
use Rattle.words.proofs.Bytes.{spaces-words}
use Rattle.std.proofs.lemmas.Bool.{cond-true, cond-false, cases_Bool, leb-true, leb-false, le-leb, lt-leb}
use Rattle.ids.specs.Ids.{is_id}
use Rattle.words.specs.Joined.{unwords, as_space}
use Rattle.words.specs.Laid.{laid}
use Rattle.names.specs.AppNames.{named, children, barred, joined_name, or_else, name_long, Found, NameFound}
use Rattle.names.specs.Writing.{laid_at, tail}

pub laid-length : (xs m : List ℕ) → length (laid xs m) ≡ length m
laid-length [] m = refl
laid-length (x ∷ xs) [] = refl
laid-length (x ∷ xs) (y ∷ m) = ap suc (laid-length xs m)

-- one text behind another is both in one
pub laid-behind : (xs ys m : List ℕ) → laid_at (length xs) ys (laid xs m) ≡ laid (xs ++ ys) m
laid-behind [] ys m = refl
laid-behind (x ∷ xs) ys [] = refl
laid-behind (x ∷ xs) ys (y ∷ m) = ap (λ l. x ∷ l) (laid-behind xs ys m)

-- a text that fits can be read back
pub laid-front : (xs m : List ℕ) → length xs ≤ length m → take (length xs) (laid xs m) ≡ xs
laid-front [] m h = refl
laid-front (x ∷ xs) [] h = absurd (omega arith)
laid-front (x ∷ xs) (y ∷ m) h = ap (λ l. x ∷ l) (laid-front xs m (omega arith))

-- what is written, and what stays behind it
laid_is : (xs m : List ℕ) (n : ℕ) → n ≡ min (length xs) (length m) → laid xs m ≡ take n xs ++ drop n m
laid_is [] m zero e = refl
laid_is [] m (suc n) e = absurd (omega arith)
laid_is (x ∷ xs) [] zero e = refl
laid_is (x ∷ xs) [] (suc n) e = absurd (omega arith)
laid_is (x ∷ xs) (y ∷ m) zero e = absurd (omega arith)
laid_is (x ∷ xs) (y ∷ m) (suc n) e = ap (λ l. x ∷ l) (laid_is xs m n (omega arith))

pub laid_at_is : (e : ℕ) (xs m : List ℕ) (s n : ℕ) → s ≡ min e (length m) → n ≡ min (length xs) (length m - s) → laid_at e xs m ≡ take s m ++ (take n xs ++ drop (s + n) m)
laid_at_is zero xs m zero n p q = rw zero-add (laid_is xs m n (omega arith))
laid_at_is zero xs m (suc s) n p q = absurd (omega arith)
laid_at_is (suc e) xs [] zero zero p q = refl
laid_at_is (suc e) xs [] zero (suc n) p q = absurd (omega arith)
laid_at_is (suc e) xs [] (suc s) n p q = absurd (omega arith)
laid_at_is (suc e) xs (y ∷ m) zero n p q = absurd (omega arith)
laid_at_is (suc e) xs (y ∷ m) (suc s) n p q = rw suc-add (ap (λ l. y ∷ l) (laid_at_is e xs m s n (omega arith) (omega arith)))

pub at-behind : (n : ℕ) (xs ys m : List ℕ) → laid_at (n + length xs) ys (laid_at n xs m) ≡ laid_at n (xs ++ ys) m
at-behind zero xs ys m = ap (λ k. laid_at k ys (laid xs m)) (zero-add (length xs)) ∙ laid-behind xs ys m
at-behind (suc n) xs ys [] = ap (λ k. laid_at k ys []) (suc-add n (length xs))
at-behind (suc n) xs ys (y ∷ m) = ap (λ k. laid_at k ys (y ∷ laid_at n xs m)) (suc-add n (length xs)) ∙ ap (λ l. y ∷ l) (at-behind n xs ys m)

-- a space and a word are written, and ms are still to come: s is the memory before, t after the space, u after both
pub at-word : (n a b : ℕ) (w : List ℕ) (ms : List (List ℕ)) (s t u : List ℕ) → a ≡ n + 1 → t ≡ laid_at n (32 ∷ []) s → b ≡ a + length w → u ≡ laid_at a w t → laid_at b (tail ms) u ≡ laid_at n (tail (w ∷ ms)) s
at-word n a b w ms s t u p q e f =
    let two : u ≡ laid_at n (32 ∷ w) s = f ∙ ap (laid_at a w) q ∙ ap (λ k. laid_at k w (laid_at n (32 ∷ []) s)) p ∙ at-behind n (32 ∷ []) w s in
    let place : b ≡ n + length (32 ∷ w) = omega arith in
    ap (laid_at b (tail ms)) two ∙ ap (λ k. laid_at k (tail ms) (laid_at n (32 ∷ w) s)) place ∙ at-behind n (32 ∷ w) (tail ms) s

pub tail-long : (w : List ℕ) (ms : List (List ℕ)) → length (tail (w ∷ ms)) ≡ 1 + (length w + length (tail ms))
tail-long w ms = omega (arith, length-append w (tail ms))

pub tail-some : (ms : List (List ℕ)) → 1 ≤ length (tail ms)
tail-some [] = omega arith
tail-some (w ∷ ms) = omega (arith, tail-long w ms)

-- no word is left for the name: all are the children's
pub no_name : (ws : List (List ℕ)) → named ws ≡ [] → children ws ≡ ws
no_name [] e = refl
no_name (w ∷ ws) e = ⊎_elim
    (λ t. cond-true (is_id w) _ _ t)
    (λ f. let n = sym (cond-false (is_id w) [] (w ∷ named ws) f) ∙ e in cc)
    (cases_Bool (is_id w))

-- behind the first word stand the others and the bar
pub tail-words : (w : List ℕ) (ms : List (List ℕ)) → barred (unwords (w ∷ ms)) ≡ 124 ∷ (w ++ tail ms)
tail-words w [] = refl
tail-words w (v ∷ ms) = ap (λ l. 124 ∷ l) (append_assoc w (32 ∷ unwords (v ∷ ms)) (124 ∷ []) ∙ ap (λ l. w ++ 32 ∷ l) (more v ms))
  where
    more : (v : List ℕ) (ms : List (List ℕ)) → unwords (v ∷ ms) ++ 124 ∷ [] ≡ v ++ tail ms
    more v [] = refl
    more v (u ∷ ms) = append_assoc v (32 ∷ unwords (u ∷ ms)) (124 ∷ []) ∙ ap (λ l. v ++ 32 ∷ l) (more u ms)

-- the two steps find the name
pub name_found : (ws : List (List ℕ)) (m : List ℕ) → NameFound ws m
name_found [] m = refl
name_found (w ∷ ws) m = by (joined_name w (named ws))
  where
    by : (t : Option (List ℕ)) → Found (Some (or_else w t)) (Some (record { first = w; joined = name_long t })) m (laid (or_else [] t) m)
    by None = refl
    by (Some t) = ⊎_elim
        (λ h. let same = laid-length t m in
        let fits = leb-true (length t) (length m) h in
        cond-true (leb (length t) (length (laid t m))) _ _ (le-leb (length t) (length (laid t m)) (omega arith)) ∙ ap Some (laid-front t m fits) ∙ sym (cond-true (leb (length t) (length m)) _ _ h))
        (λ h. let same = laid-length t m in
        let long = leb-false (length t) (length m) h in
        cond-false (leb (length t) (length (laid t m))) _ _ (lt-leb (length t) (length (laid t m)) (omega arith)) ∙ sym (cond-false (leb (length t) (length m)) _ _ h))
        (cases_Bool (leb (length t) (length m)))

-- the name is little longer than what is left of the line
named-few : (ws : List (List ℕ)) → length (tail (named ws)) ≤ length (tail ws)
named-few [] = omega arith
named-few (w ∷ ws) = ⊎_elim
    (λ t. let e = ap (λ l. length (tail l)) (cond-true (is_id w) [] (w ∷ named ws) t) in omega (arith, tail-some (w ∷ ws)))
    (λ f. let e = ap (λ l. length (tail l)) (cond-false (is_id w) [] (w ∷ named ws) f) in omega (arith, tail-long w (named ws), tail-long w ws, named-few ws))
    (cases_Bool (is_id w))

tail-unwords : (w : List ℕ) (ms : List (List ℕ)) → length w + length (tail ms) ≡ length (unwords (w ∷ ms)) + 1
tail-unwords w ms = omega (arith, ap length (tail-words w ms), length-append w (tail ms), length-append (unwords (w ∷ ms)) (124 ∷ []))

pub name_size : (o : Option (Bor (List ℕ))) (w : List ℕ) (ws : List (List ℕ)) → ahead o ≡ w ∷ ws → length w + length (tail (named ws)) ≤ size_left o
name_size None w ws e = cc
name_size (Some r) w ws e =
    let long : length (unwords (w ∷ ws)) ≡ length r.now = ap (λ l. length (unwords l)) (sym e) ∙ sym (ap length (spaces-words r.now)) ∙ length-map r.now as_space in
    omega (arith, tail-unwords w ws, named-few ws)

-- memory t is m with the text xs laid over it, which ends at e
pub record Written (m xs : List ℕ) (e : ℕ) (t : List ℕ) : Type 0 where
  pub end : e ≡ length xs
  pub text : t ≡ laid xs m

-- one part more behind it
pub written_more : {m xs t : List ℕ} {e : ℕ} → Written m xs e t → (ys : List ℕ) (f : ℕ) (u : List ℕ) → f ≡ e + length ys → u ≡ laid_at e ys t → Written m (xs ++ ys) f u
written_more {m} {xs} {t} {e} h ys f u p q = record {
  end = omega (arith, h.end, length-append xs ys);
  text = q ∙ ap (laid_at e ys) h.text ∙ ap (λ n. laid_at n ys (laid xs m)) h.end ∙ laid-behind xs ys m;
}

-- the bar, the first word, a space, the second word, and what stands behind them
pub whole : (w v : List ℕ) (ms : List (List ℕ)) → (124 ∷ []) ++ w ++ (32 ∷ []) ++ v ++ tail ms ≡ barred (unwords (w ∷ v ∷ ms))
whole w v ms = ap (λ l. 124 ∷ l) (append_assoc (w ++ 32 ∷ []) v (tail ms) ∙ append_assoc w (32 ∷ []) (v ++ tail ms)) ∙ sym (tail-words w (v ∷ ms))
