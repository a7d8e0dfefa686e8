-- The entries so far. Assumes nothing.
use Rattle.std.proofs.Common.{◌≡◌, ℕ, ◌+◌, ◌<◌, Bool, ◌&&◌, List, length, set, is_ok, Some, None, Option, Result, sym, refl, ap, subst, ⊎_elim, arith, get_or-set_other, get_or-set_same}
use Rattle.std.proofs.lemmas.Bool.{cases_Bool, cases_lt}
use Rattle.std.proofs.lemmas.Grind.{common_steps}
use Rattle.keyed.specs.Meaning.{Names, Kept, kept, nothing, Entered, Finite}
use Rattle.idents.specs.declared.ident.Ident.{Ident}
use Rattle.idents.specs.Idents.{same_ident, proper_ident, same_is, same_self}
use Rattle.entries.specs.declared.entry.Entry.{Entry}
use Rattle.entries.specs.Told.{at, blank, Took, Answer, Judged, Told}

pub record Running (roomy : ℕ → Kept Ident → Ident → Bool) (size : ℕ) (before es : List Entry) (j : ℕ) (m : Names Ident ℕ) : Type 0 where
  pub long : length es ≡ length before
  pub ids : (k : ℕ) → (at es k).id ≡ (at before k).id
  pub numbers : (k : ℕ) → (at es k).number ≡ (at before k).number
  pub judged : (k : ℕ) → k < j → Judged roomy size es k
  pub finds : (i : Ident) → Answer es j i (m.find i)

-- the same answer where the first j entries are the same
pub kept-answer : (es fs : List Entry) (j : ℕ) (i : Ident) (o : Option ℕ) → ((k : ℕ) → k < j → at fs k ≡ at es k) → Answer es j i o → Answer fs j i o
kept-answer es fs j i None same a = λ k lt t. grind (arith, common_steps, a k lt)
kept-answer es fs j i (Some n) same a = record {
  place = a.place;
  within = a.within;
  took = grind (arith, common_steps, same a.place);
  number = grind (arith, common_steps, same a.place);
  later = λ k past lt t. grind (arith, common_steps, a.later k past lt, same k lt);
}

-- and one entry further, where that was not taken under i
passed : (es : List Entry) (j : ℕ) (i : Ident) (o : Option ℕ) → (Took (at es j) i → ⊥) → Answer es j i o → Answer es (j + 1) i o
passed es j i None none a = λ k lt t. ⊎_elim (λ below. a k below t) (λ past. grind (arith, common_steps, none)) (cases_lt k j)
passed es j i (Some n) none a = record {
  place = a.place;
  within = grind (arith, common_steps);
  took = a.took;
  number = a.number;
  later = λ k past lt t. ⊎_elim (λ below. a.later k past below t) (λ over. grind (arith, common_steps, none)) (cases_lt k j);
}

module _ (roomy : ℕ → Kept Ident → Ident → Bool) (size : ℕ) (before : List Entry) where
  pub start : (m : Names Ident ℕ) → m ≡ nothing → Running roomy size before before 0 m
  start m e = record {
    long = refl;
    ids = λ k. refl;
    numbers = λ k. refl;
    judged = λ k lt. absurd (omega arith);
    finds = λ i. subst (λ (z : Names Ident ℕ). Answer before 0 i (z.find i)) (sym e) (λ k lt _. omega arith);
  }

  module _ {E : Type 0} (es : List Entry) (j : ℕ) (lt : j < length es) (m after : Names Ident ℕ) (x : E) (r : Result (Option ℕ) E) (did : Entered same_ident (roomy size (kept m) (at es j).id) (at es j).id (at es j).number x m after r) (b : Bool) (mark : b ≡ is_ok r) where
    abbrev e : Entry
    e = at es j

    abbrev marked : Entry
    marked = record { id = e.id; number = e.number; taken = b }

    abbrev fs : List Entry
    fs = set es j marked

    room : b ≡ roomy size (kept m) e.id
    room = let answers = did.answers in grind (arith, common_steps)

    here : at fs j ≡ marked
    here = get_or-set_same es j marked blank lt

    there : (k : ℕ) → (k ≡ j → ⊥) → at fs k ≡ at es k
    there k ne = get_or-set_other es j k marked blank ne

    before_j : (n : ℕ) → n < j + 1 → (i : Ident) (o : Option ℕ) → Answer es n i o → Answer fs n i o
    before_j n le i o a = kept-answer es fs n i o (λ k lk. there k (λ q. omega arith)) a

    answer_after : (i : Ident) → Answer es j i (m.find i) → Answer fs (j + 1) i (after.find i)
    answer_after i a =
        let found = ap (λ (z : Names Ident ℕ). z.find i) did.leaves in
        ⊎_elim
        (λ t. let now : Some e.number ≡ after.find i = grind (arith, common_steps) in subst (Answer fs (j + 1) i) now (record {
          place = j;
          within = omega arith;
          took = grind (arith, common_steps, same_is);
          number = ap (λ (z : Entry). z.number) here;
          later = λ k past lk _. omega arith;
        }))
        (λ f. let same : m.find i ≡ after.find i = grind (arith, common_steps) in subst (Answer fs (j + 1) i) same (passed fs j i (m.find i) (λ w. grind (arith, common_steps, same_self i)) (before_j j (omega arith) i (m.find i) a)))
        (cases_Bool (b && same_ident i e.id))

    judged-kept : (k : ℕ) → k < j → Judged roomy size es k → Judged roomy size fs k
    judged-kept k lo d = record {
      then = d.then;
      finds = λ i. before_j k (omega arith) i (d.then.find i) (d.finds i);
      counts = d.counts;
      answer = grind (arith, common_steps, there k, d.answer);
    }

    pub more : Finite same_ident proper_ident (kept m) → Running roomy size before es j m → Running roomy size before fs (j + 1) after
    more fin run = record {
      long = grind (arith, common_steps, run.long);
      ids = λ k. grind (arith, common_steps, there k, run.ids k);
      numbers = λ k. grind (arith, common_steps, there k, run.numbers k);
      judged = λ k lk. ⊎_elim (λ lo. judged-kept k lo (run.judged k lo)) (λ hi. let q : k ≡ j = omega arith in subst (λ z. Judged roomy size fs z) (sym q) last) (cases_lt k j);
      finds = λ i. answer_after i (run.finds i);
    }
      where
        last : Judged roomy size fs j
        last = record {
          then = m;
          finds = λ i. before_j j (omega arith) i (m.find i) (run.finds i);
          counts = fin;
          answer = grind (arith, common_steps);
        }

  pub end : (es : List Entry) (j : ℕ) (m : Names Ident ℕ) → j ≡ length es → Finite same_ident proper_ident (kept m) → Running roomy size before es j m → Told roomy size before es m
  end es j m q fin run = record {
    long = run.long;
    ids = run.ids;
    numbers = run.numbers;
    judged = λ k lk. run.judged k (omega arith);
    finds = λ i. subst (λ z. Answer es z i (m.find i)) q (run.finds i);
    counts = fin;
  }
