-- No more are held than were entered, so that none is refused for want of room within the capacity. Assumes nothing.
use Rattle.std.proofs.Common.{◌≡◌, ℕ, zero, suc, ◌<◌, ◌≤◌, Bool, true, List, [], ◌∷◌, length, is_some, Some, None, Option, refl, ap, ◌∙◌, arith}
use Rattle.std.proofs.lemmas.Bool.{false≢true}
use Rattle.std.proofs.lemmas.Grind.{common_steps}
use Rattle.keyed.proofs.Counts.{no_longer}
use Rattle.keyed.specs.Meaning.{Names, Kept, kept, listed, IndexLaws}
use Rattle.idents.specs.declared.ident.Ident.{Ident}
use Rattle.idents.specs.Idents.{same_ident, proper_ident, same_self, ident_laws}
use Rattle.entries.specs.declared.entry.Entry.{Entry}
use Rattle.entries.specs.Told.{at, Answer, Judged, Told}

-- the identifiers of the first k entries
abbrev ids_below : List Entry → ℕ → List Ident
ids_below es zero = []
ids_below es (suc k) = (at es k).id ∷ ids_below es k

ids_long : (es : List Entry) (k : ℕ) → length (ids_below es k) ≡ k
ids_long es zero = refl
ids_long es (suc k) = ap suc (ids_long es k)

ids_has : (es : List Entry) (k p : ℕ) (i : Ident) → p < k → (at es p).id ≡ i → listed same_ident i (ids_below es k) ≡ true
ids_has es zero p i lt e = absurd (omega arith)
ids_has es (suc k) p i lt e = grind (arith, common_steps, ids_has es k p i, same_self i)

answered : (es : List Entry) (k : ℕ) (i : Ident) (o : Option ℕ) → Answer es k i o → is_some o ≡ true → listed same_ident i (ids_below es k) ≡ true
answered es k i None a e = absurd (false≢true e)
answered es k i (Some n) a e = ids_has es k a.place i a.within a.took.under

pub few : (roomy : ℕ → Kept Ident → Ident → Bool) (size : ℕ) (es : List Entry) (k : ℕ) (d : Judged roomy size es k) → d.then.count ≤ k
few roomy size es k d =
    let short : length d.counts.keys ≤ length (ids_below es k) =
    no_longer (ident_laws 0) d.counts.keys (ids_below es k) d.counts.apart (λ i e. answered es k i (d.then.find i) (d.finds i) (d.counts.exact i ∙ e)) in
    omega (arith, short, ids_long es k, d.counts.many)

pub all_taken : {Self : Type 0} {means : Self → Names Ident ℕ} {capacity : ℕ → ℕ} {roomy : ℕ → Kept Ident → Ident → Bool} {sound : Self → Type 0} → IndexLaws same_ident proper_ident means capacity roomy sound
    → (size : ℕ) (before es : List Entry) (end : Names Ident ℕ) → Told roomy size before es end → ((k : ℕ) → k < length before → proper_ident (at before k).id ≡ true) → length before ≤ capacity size
    → (k : ℕ) → k < length before → (at es k).taken ≡ true
all_taken {capacity = capacity} {roomy = roomy} laws size before es end told fit fits k lt =
    let d = told.judged k (omega (arith, told.long)) in
    let less : d.then.count < capacity size = omega (arith, few roomy size es k d) in
    d.answer ∙ laws.spare_has_room size (kept d.then) (at es k).id d.counts (ap proper_ident (told.ids k) ∙ fit k lt) less
