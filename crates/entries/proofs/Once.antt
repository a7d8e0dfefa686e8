-- What is told of a list of entries leaves nothing open. Assumes nothing.
use Rattle.std.proofs.Common.{◌≡◌, ℕ, zero, suc, ◌<◌, ◌≤◌, Bool, List, length, is_some, Some, None, Option, sym, refl, ap, ◌∙◌, subst, arith}
use mathlib.Core.Path.{fun_ext}
use Rattle.std.proofs.lemmas.Bool.{cases_order}
use Rattle.std.proofs.lemmas.Grind.{common_steps}
use Rattle.keyed.proofs.Counts.{count_follows}
use Rattle.keyed.specs.Meaning.{Names, Kept, kept}
use Rattle.idents.specs.declared.ident.Ident.{Ident}
use Rattle.idents.specs.Idents.{ident_laws}
use Rattle.entries.specs.declared.entry.Entry.{Entry}
use Rattle.entries.specs.Told.{at, Answer, Told, ToldOnce}
use Rattle.entries.proofs.Running.{kept-answer}

answer_once : (es : List Entry) (j : ℕ) (i : Ident) (o p : Option ℕ) → Answer es j i o → Answer es j i p → o ≡ p
answer_once es j i None None a b = refl
answer_once es j i None (Some n) a b = absurd (a b.place b.within b.took)
answer_once es j i (Some m) None a b = absurd (b a.place a.within a.took)
answer_once es j i (Some m) (Some n) a b = let order = cases_order a.place b.place in grind (arith, common_steps, a.later b.place, b.later a.place)

same_kept : (m n : Kept Ident) → ((i : Ident) → m.has i ≡ n.has i) → m.count ≡ n.count → m ≡ n
same_kept m n has count j = record { has = fun_ext has j; count = count j }

module _ (roomy : ℕ → Kept Ident → Ident → Bool) (size : ℕ) (before es fs : List Entry) (end fin : Names Ident ℕ) (a : Told roomy size before es end) (b : Told roomy size before fs fin) where
  one : (k : ℕ) → k < length before → ((j : ℕ) → j < k → at es j ≡ at fs j) → at es k ≡ at fs k
  one k lt same =
      let x = a.judged k (omega (arith, a.long)) in
      let y = b.judged k (omega (arith, b.long)) in
      let find : (i : Ident) → x.then.find i ≡ y.then.find i =
      λ i. answer_once es k i (x.then.find i) (y.then.find i) (x.finds i) (kept-answer fs es k i (y.then.find i) same (y.finds i)) in
      let has : (i : Ident) → (kept x.then).has i ≡ (kept y.then).has i = λ i. ap is_some (find i) in
      let was = same_kept (kept x.then) (kept y.then) has (count_follows (ident_laws 0) (kept x.then) (kept y.then) x.counts y.counts has) in
      grind (arith, common_steps, a.ids k, b.ids k, a.numbers k, b.numbers k, x.answer, y.answer)

  below : (k : ℕ) → k ≤ length before → (j : ℕ) → j < k → at es j ≡ at fs j
  below zero le j lt = absurd (omega arith)
  below (suc k) le j lt = grind (arith, common_steps, below k (omega arith) j, one k (omega arith) (below k (omega arith)))

  once : ((k : ℕ) → k < length before → at es k ≡ at fs k) × ((i : Ident) → end.find i ≡ fin.find i)
  once =
      let same : (k : ℕ) → k < length before → at es k ≡ at fs k = below (length before) (omega arith) in
      let long : length fs ≡ length es = b.long ∙ sym a.long in (
        same,
        λ i. answer_once es (length es) i (end.find i) (fin.find i) (a.finds i)
            (kept-answer fs es (length es) i (fin.find i) (λ k lt. same k (omega (arith, a.long))) (subst (λ z. Answer fs z i (fin.find i)) long (b.finds i))),
      )

pub told-once : ToldOnce
told-once = once
