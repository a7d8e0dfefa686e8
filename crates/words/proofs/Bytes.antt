-- The words that a joined text is joined from, and its bytes. Assumes nothing.
use Rattle.std.proofs.Common.{◌≡◌, ℕ, ◌<◌, ◌≤◌, true, List, [], ◌∷◌, length, sym, refl, ap, ◌∙◌, ⊎_elim, arith}
use Rattle.std.proofs.lemmas.Bool.{cond-true, cond-false, cases_Bool}
use Rattle.std.proofs.lemmas.Bool.Decides.{nat_tests}
use Rattle.std.proofs.lemmas.List.Splits.{slice_split-cons_yes, slice_split-cons_no}
use Rattle.words.specs.Words.{separates, words_of, longer}
use Rattle.words.specs.Joined.{as_space, spaces, unwords}
use Rattle.words.proofs.Cut.{words_count}

unwords-sep : (l : List (List ℕ)) → 0 < length l → unwords ([] ∷ l) ≡ 32 ∷ unwords l
unwords-sep [] h = absurd (omega arith)
unwords-sep (w ∷ l) h = refl

unwords-in : (b : ℕ) (l : List (List ℕ)) → 0 < length l → unwords (longer b l) ≡ b ∷ unwords l
unwords-in b [] h = absurd (omega arith)
unwords-in b (w ∷ []) h = refl
unwords-in b (w ∷ v ∷ l) h = refl

-- a span with spaces for its separators is its words joined
pub spaces-words : (s : List ℕ) → spaces s ≡ unwords (words_of s)
spaces-words [] = refl
spaces-words (b ∷ bs) = ⊎_elim
    (λ h. ap (λ x. x ∷ spaces bs) (cond-true (separates b) _ _ h) ∙ ap (λ l. 32 ∷ l) (spaces-words bs) ∙ sym (ap unwords (slice_split-cons_yes separates b bs h) ∙ unwords-sep (words_of bs) (words_count bs).0))
    (λ h. ap (λ x. x ∷ spaces bs) (cond-false (separates b) _ _ h) ∙ ap (λ l. b ∷ l) (spaces-words bs) ∙ sym (ap unwords (slice_split-cons_no separates b bs h) ∙ unwords-in b (words_of bs) (words_count bs).0))
    (cases_Bool (separates b))

-- a separator is a small byte, so a space in its place changes nothing that is alike for all bytes up to 32
sep_low : (b : ℕ) → separates b ≡ true → b ≤ 32
sep_low b h = grind (arith, nat_tests)

pub space_same : {X : Type 0} (f : ℕ → X) → ((b : ℕ) → b ≤ 32 → f b ≡ f 32) → (b : ℕ) → f (as_space b) ≡ f b
space_same f low b = ⊎_elim
    (λ h. ap f (cond-true (separates b) 32 b h) ∙ sym (low b (sep_low b h)))
    (λ h. ap f (cond-false (separates b) 32 b h))
    (cases_Bool (separates b))
