-- The words of a quantifier's name, and its text. Assumes nothing.
use Rattle.std.proofs.Common.{◌≡◌, ℕ, zero, suc, ◌+◌, ◌<◌, ◌≤◌, Bool, true, false, cond, not, ◌&&◌, ltb, leb, List, [], ◌∷◌, length, take, drop, position, Some, sym, refl, ap, ◌∙◌, ⊎_elim, arith}
use lib.Seq.{drop-nil}
use Rattle.std.specs.Option.{option_map}
use Rattle.std.proofs.lemmas.Bool.{cond-true, cond-false, cases_Bool, lt-ltb, le-leb, and_from}
use Rattle.std.proofs.lemmas.Bool.Decides.{nat_tests}
use Rattle.words.specs.declared.joined.Bars.TheVariants.{Bare, Both}
use Rattle.words.specs.Words.{words_of, front_of, rest_of}
use Rattle.words.specs.Joined.{unwords, joined_text}
use Rattle.words.proofs.Bytes.{spaces-words}
use Rattle.names.specs.AppNames.{barred}
use Rattle.names.specs.QuantNames.{opens, closes, name_words, quant_text}

more : {X : Type 0} (p : X → Bool) (xs : List X) (k : ℕ) → option_map suc (position p xs) ≡ Some k → (0 < k) × (k ≤ length xs)
more p xs k e = (grind (arith, nat_tests), grind (arith, nat_tests))

more_yet : {X : Type 0} (p : X → Bool) (xs : List X) (k : ℕ) → option_map suc (option_map suc (position p xs)) ≡ Some k → (0 < k) × (k ≤ suc (length xs))
more_yet p xs k e = (grind (arith, nat_tests), grind (arith, nat_tests))

-- a name has at least one word, and no more than there are
pub within : (new : Bool) (ws : List (List ℕ)) (k : ℕ) → name_words new ws ≡ Some k → (0 < k) × (k ≤ length ws)
within new [] k e = cc
within true (w ∷ ws) k e = ⊎_elim
    (λ t. more_yet closes ws k (sym (cond-true (opens w && not (closes w)) _ _ t) ∙ e))
    (λ f. let is : Some 1 ≡ Some k = sym (cond-false (opens w && not (closes w)) _ _ f) ∙ e in let one : 1 ≡ k = cc in (omega arith, omega arith))
    (cases_Bool (opens w && not (closes w)))
within false (w ∷ ws) k e = let m = more _ ws k e in (omega arith, omega arith)

pub front-some : (k : ℕ) (ws : List (List ℕ)) → (0 < k) × (k ≤ length ws) → front_of k ws ≡ Some (take k ws)
front-some k ws h = cond-true (ltb 0 k && leb k (length ws)) _ _ (and_from (ltb 0 k) (leb k (length ws)) (lt-ltb 0 k h.0) (le-leb k (length ws) h.1))

-- the text that a span stands for is the name that its words make
pub text_of : (new : Bool) (k : ℕ) (ws : List (List ℕ)) (s : List ℕ) → words_of s ≡ take k ws → (b : Bool) → b ≡ (not new && ltb 1 k) → joined_text (cond b Both Bare) s ≡ quant_text new k ws
text_of new k ws s e true h = ap barred (spaces-words s ∙ ap unwords e) ∙ sym (cond-true (not new && ltb 1 k) _ _ (sym h))
text_of new k ws s e false h = spaces-words s ∙ ap unwords e ∙ sym (cond-false (not new && ltb 1 k) _ _ (sym h))

-- one more word taken off
pub drop-rest : (k : ℕ) (ws : List (List ℕ)) → rest_of (drop k ws) ≡ drop (k + 1) ws
drop-rest zero [] = refl
drop-rest zero (w ∷ ws) = refl
drop-rest (suc k) [] = sym (drop-nil (suc k + 1))
drop-rest (suc k) (w ∷ ws) = drop-rest k ws ∙ ap (λ n. drop n (w ∷ ws)) (let e : suc (k + 1) ≡ suc k + 1 = omega arith in e)
