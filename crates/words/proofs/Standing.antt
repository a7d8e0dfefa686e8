-- The laws of words and kinds. Assumes nothing.
use Rattle.std.proofs.Common.{◌≡◌, ℕ, ◌<◌, false, ◌||◌, List, [], ◌∷◌, length, Some, find, sym, refl, ap, ◌∙◌, subst, ⊎_elim, arith}
use Rattle.std.specs.List.{AllByRecursion}
use Rattle.std.specs.Str.{bytes_eq}
use Rattle.std.proofs.lemmas.Slice.Eq.{bytes_eq-Decides}
use Rattle.std.proofs.lemmas.Bool.{cond-true, cond-false, cases_Bool}
use Rattle.words.specs.declared.kind.LineKind.{LineKind}
use Rattle.words.specs.declared.kind.LineKind.TheVariants.{ToolVersion, MkQuant, MkVar, MkApp, AttachMeaning, AttachVarNames, Eof, MkLambda, MkProof, AttachEnode, EqExpl, NewMatch, InstDiscovered, Instance, EndOfInstance, DecideAndOr, Decide, Assign, Push, Pop, BeginCheck, QueryDone, ResolveProcess, ResolveLit, Conflict}
use Rattle.words.specs.Words.{separates, words_of, longer, broken}
use Rattle.words.specs.Joined.{WordsApart}
use Rattle.words.specs.Kinds.{text_of, kind_of, kinds, KindsByText}
use Rattle.words.proofs.Cut.{words_count}
use Rattle.std.proofs.lemmas.List.Splits.{slice_split-cons_yes, slice_split-cons_no}
use Rattle.words.proofs.Bytes.{spaces-words}

all_longer : (b : ℕ) (ws : List (List ℕ)) → separates b ≡ false → AllByRecursion (λ w. broken w ≡ false) ws → 0 < length ws → AllByRecursion (λ w. broken w ≡ false) (longer b ws)
all_longer b [] h a p = absurd (omega arith)
all_longer b (w ∷ ws) h a p = (ap (λ t. t || broken w) h ∙ a.0, a.1)

all_whole : (s : List ℕ) → AllByRecursion (λ w. broken w ≡ false) (words_of s)
all_whole [] = (refl, tt)
all_whole (b ∷ bs) = ⊎_elim
    (λ h. subst (AllByRecursion (λ w. broken w ≡ false)) (sym (slice_split-cons_yes separates b bs h)) (refl, all_whole bs))
    (λ h. subst (AllByRecursion (λ w. broken w ≡ false)) (sym (slice_split-cons_no separates b bs h)) (all_longer b (words_of bs) h (all_whole bs) (words_count bs).0))
    (cases_Bool (separates b))

pub words_apart : WordsApart
words_apart = record { whole = all_whole; back = λ s. sym (spaces-words s) }

among_exact : (w : List ℕ) (ks : List LineKind) (k : LineKind) → find (λ j. bytes_eq w (text_of j)) ks ≡ Some k → w ≡ text_of k
among_exact w [] k e = cc
among_exact w (j ∷ ks) k e = ⊎_elim
    (λ t. let same : Some j ≡ Some k = sym (cond-true (bytes_eq w (text_of j)) _ _ t) ∙ e in let is : j ≡ k = cc in (bytes_eq-Decides w (text_of j)).0 t ∙ ap text_of is)
    (λ f. among_exact w ks k (sym (cond-false (bytes_eq w (text_of j)) _ _ f) ∙ e))
    (cases_Bool (bytes_eq w (text_of j)))

each_taken : (k : LineKind) → kind_of (text_of k) ≡ Some k
each_taken ToolVersion = refl
each_taken MkQuant = refl
each_taken MkVar = refl
each_taken MkApp = refl
each_taken AttachMeaning = refl
each_taken AttachVarNames = refl
each_taken Eof = refl
each_taken MkLambda = refl
each_taken MkProof = refl
each_taken AttachEnode = refl
each_taken EqExpl = refl
each_taken NewMatch = refl
each_taken InstDiscovered = refl
each_taken Instance = refl
each_taken EndOfInstance = refl
each_taken DecideAndOr = refl
each_taken Decide = refl
each_taken Assign = refl
each_taken Push = refl
each_taken Pop = refl
each_taken BeginCheck = refl
each_taken QueryDone = refl
each_taken ResolveProcess = refl
each_taken ResolveLit = refl
each_taken Conflict = refl

pub kinds-by_text : KindsByText
kinds-by_text = record { taken = each_taken; exact = λ w k e. among_exact w kinds k e }
