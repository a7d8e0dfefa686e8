-- What is read is an expression, and the answer its number. Assumes nothing.
use Rattle.std.proofs.Common.{◌≡◌, ℕ, zero, suc, ◌+◌, ◌-◌, ◌*◌, ◌≤◌, Bool, true, false, cond, eqb, List, [], ◌∷◌, ◌++◌, length, IfOk, Some, None, Ok, Err, Option, Result, sym, refl, ap, ◌∙◌, subst, arith}
use Rattle.std.proofs.lemmas.List.{append_assoc}
use Rattle.std.proofs.lemmas.Bool.{cond-true, cond-false, eqb-true}
use Rattle.std.proofs.lemmas.Bool.Decides.{nat_tests}
use Rattle.fraction.specs.declared.FractionFault.{FractionFault}
use Rattle.fraction.specs.Ratios.{Ratio, whole, negative}
use Rattle.fraction.specs.Fractions.{lowest, subtract, divide}
use Rattle.arith.specs.declared.Operator.{Operator}
use Rattle.arith.specs.declared.Operator.TheVariants.{Sum, Difference, Product, Quotient, Other}
use Rattle.arith.specs.declared.ValueFault.{ValueFault}
use Rattle.arith.specs.declared.ValueFault.TheVariants.{Unreadable, TooDeep}
use Rattle.arith.specs.Values.{arith_value, most_open, Read, Tally, none, digit, digits_after, literal_of, sign_of, operator_of, onto, cut_at_space, value_at, bracket, arguments, combine, counted, fold_in, at_close, then, worked}
use Rattle.arith.specs.Expressions.{Figure, Numeral, figure, more, amount_of, spelled, Many, sums, products, symbol, Expr, numeral, many, opposite, less, divided, Args, only, also, written, listed, nesting, nesting_all, join, worth, worth_all, Is, Stays, StaysAll}
use Rattle.arith.specs.Laws.{Clear, Ends, Denotes}
use Rattle.arith.proofs.Steps.{digit_low}
use Rattle.arith.proofs.Worths.{join-gives, less_gives, over_gives, opposite_is, whole-gives, is_one}
use Rattle.arith.proofs.Complete.{taken, op_of, count_of_all, combine-many, close_many, one_text, two_text}

-- ---- what an answer tells of the steps before it
then-out : {X Y : Type 0} (x : Result X ValueFault) (k : X → Result Y ValueFault) (y : Y) → then x k ≡ Ok y → (a : X) × (x ≡ Ok a) × (k a ≡ Ok y)
then-out (Ok a) k y e = (a, refl, e)
then-out (Err r) k y e = absurd (cc)

refused : {X : Type 0} (r : ValueFault) (x : X) → ◌≡◌ {A = Result X ValueFault} (Err r) (Ok x) → ⊥
refused r x e = cc

ok_out : {X : Type 0} (x y : X) → ◌≡◌ {A = Result X ValueFault} (Ok x) (Ok y) → x ≡ y
ok_out x y e = cc

pair_out : {X Y : Type 0} (a c : X) (b d : Y) → ◌≡◌ {A = Result (X × Y) ValueFault} (Ok (a, b)) (Ok (c, d)) → (a ≡ c) × (b ≡ d)
pair_out {X} {Y} a c b d e = let same : ◌≡◌ {A = X × Y} (a, b) (c, d) = cc in (ap (λ p. p.0) same, ap (λ p. p.1) same)

worked-out : (x : Result Ratio FractionFault) (f : Ratio) → worked x ≡ Ok f → x ≡ Ok f
worked-out (Ok q) f e = let same : q ≡ f = cc in ap Ok same
worked-out (Err r) f e = absurd (cc)

counted-out : (n : ℕ) (x : Result Ratio ValueFault) (s : Tally) → counted n x ≡ Ok s → (v : Ratio) × (x ≡ Ok v) × (record { number = n + 1; result = Some v } ≡ s)
counted-out n (Ok v) s e = (v, refl, cc)
counted-out n (Err r) s e = absurd (refused r s e)

fold_number : (o : Operator) (n : ℕ) (r : Option Ratio) (p : Ratio) (s : Tally) → fold_in o n r p ≡ Ok s → n + 1 ≡ s.number
fold_number o n None p s e = ap (λ x. x.number) (counted-out n (Ok p) s e).2
fold_number o n (Some q) p s e = ap (λ x. x.number) (counted-out n (combine o n q p) s e).2

-- one turn: the closing bracket, or an argument
data Turn (inner : List ℕ → Read) (o : Operator) (g : ℕ) (s : Tally) (t : List ℕ) (q : Ratio) (w : List ℕ) : Type 0 where
  closed : t ≡ 41 ∷ w → at_close o s.number s.result ≡ Ok q → Turn inner o g s t q w
  argued : (u v : List ℕ) (p : Ratio) (s' : Tally) → t ≡ 32 ∷ u → inner u ≡ Ok (p, v) → fold_in o s.number s.result p ≡ Ok s' → arguments inner o g s' v ≡ Ok (q, w) → Turn inner o g s t q w

module _ (inner : List ℕ → Read) (o : Operator) where
  no_turn : (s : Tally) (t : List ℕ) (x : Ratio × List ℕ) → arguments inner o zero s t ≡ Ok x → ⊥
  no_turn s [] x e = refused Unreadable x e
  no_turn s (b ∷ bs) x e = refused Unreadable x e

  turn : (g : ℕ) (s : Tally) (t : List ℕ) (q : Ratio) (w : List ℕ) → arguments inner o (suc g) s t ≡ Ok (q, w) → Turn inner o g s t q w
  turn g s [] q w e = absurd (refused Unreadable (q, w) e)
  turn g s (b ∷ bs) q w e = by (eqb b 32) refl (eqb b 41) refl e
    where
      by : (x : Bool) → eqb b 32 ≡ x → (y : Bool) → eqb b 41 ≡ y
          → cond x (then (inner bs) (λ p. then (fold_in o s.number s.result p.0) (λ t. arguments inner o g t p.1))) (cond y (then (at_close o s.number s.result) (λ q. Ok (q, bs))) (Err Unreadable)) ≡ Ok (q, w)
          → Turn inner o g s (b ∷ bs) q w
      by true h y k e =
          let a = then-out (inner bs) (λ p. then (fold_in o s.number s.result p.0) (λ t. arguments inner o g t p.1)) (q, w) e in
          let c = then-out (fold_in o s.number s.result a.0.0) (λ t. arguments inner o g t a.0.1) (q, w) a.2 in
          argued bs a.0.1 a.0.0 c.0 (ap (λ n. n ∷ bs) (eqb-true b 32 h)) a.1 c.1 c.2
      by false h true k e =
          let a = then-out (at_close o s.number s.result) (λ q. Ok (q, bs)) (q, w) e in
          let same = pair_out a.0 q bs w a.2 in
          closed (λ i. eqb-true b 41 k i ∷ same.1 i) (a.1 ∙ ap Ok same.0)
      by false h false k e = absurd (refused Unreadable (q, w) e)

  -- from k arguments on, the closing bracket takes none
  never : (k : ℕ) → ((n : ℕ) (r : Option Ratio) (q : Ratio) → k ≤ n → at_close o n r ≡ Ok q → ⊥)
      → (f : ℕ) (s : Tally) (t : List ℕ) (q : Ratio) (w : List ℕ) → k ≤ s.number → arguments inner o f s t ≡ Ok (q, w) → ⊥
  never k bad zero s t q w h e = no_turn s t (q, w) e
  never k bad (suc f) s t q w h e =
      elim (turn f s t q w e) [
        | closed a b ↦ bad s.number s.result q h b
        | argued u v p s' a b c d ↦ let more = fold_number o s.number s.result p s' c in never k bad f s' v q w (omega arith) d
      ]

bad_other : (n : ℕ) (r : Option Ratio) (q : Ratio) → 0 ≤ n → at_close Other n r ≡ Ok q → ⊥
bad_other n None q h e = refused Unreadable q e
bad_other n (Some p) q h e = refused Unreadable q e

bad_quotient : (n : ℕ) (r : Option Ratio) (q : Ratio) → 3 ≤ n → at_close Quotient n r ≡ Ok q → ⊥
bad_quotient n None q h e = refused Unreadable q e
bad_quotient n (Some p) q h e = let other : eqb n 2 ≡ false = grind (arith, nat_tests) in refused Unreadable q (sym (cond-false _ _ _ other) ∙ e)

bad_difference : (n : ℕ) (r : Option Ratio) (q : Ratio) → 3 ≤ n → at_close Difference n r ≡ Ok q → ⊥
bad_difference n None q h e = refused Unreadable q e
bad_difference n (Some p) q h e =
    let one : eqb n 1 ≡ false = grind (arith, nat_tests) in
    let two : eqb n 2 ≡ false = grind (arith, nat_tests) in
    refused Unreadable q (sym (cond-false _ _ _ one ∙ cond-false _ _ _ two) ∙ e)

-- ---- what was found at the front of t: an expression, and w after it
pub record Found (d : ℕ) (t : List ℕ) (f : Ratio) (w : List ℕ) : Type 0 where
  pub expr : Expr
  pub begins : t ≡ written expr ++ w
  pub ends : Ends expr w
  pub shallow : nesting expr ≤ d
  pub stays : Stays expr
  pub number : Is (worth expr) f

-- numerals
abbrev figure_of : (b : ℕ) → digit b ≡ true → Figure
figure_of b e = record { amount = b - 48; small = let h = digit_low b e in omega arith }

figure_is : (b : ℕ) → digit b ≡ true → b ≡ 48 + (b - 48)
figure_is b e = let h = digit_low b e in omega arith

digits_out : (n : Numeral) (t : List ℕ) → (m : Numeral) × (spelled n ++ t ≡ spelled m ++ (digits_after (amount_of n) t).1) × ((digits_after (amount_of n) t).0 ≡ amount_of m) × Clear (digits_after (amount_of n) t).1
digits_out n [] = (n, refl, refl, tt)
digits_out n (b ∷ bs) = by (digit b) refl (λ c. digits_out (more n c) bs)
  where
    Out : ℕ × List ℕ → Type 0
    Out p = (m : Numeral) × (spelled n ++ (b ∷ bs) ≡ spelled m ++ p.1) × (p.0 ≡ amount_of m) × Clear p.1

    by : (t : Bool) → digit b ≡ t
        → ((c : Figure) → (m : Numeral) × (spelled (more n c) ++ bs ≡ spelled m ++ (digits_after (amount_of (more n c)) bs).1) × ((digits_after (amount_of (more n c)) bs).0 ≡ amount_of m) × Clear (digits_after (amount_of (more n c)) bs).1)
        → Out (cond t (digits_after (amount_of n * 10 + (b - 48)) bs) (amount_of n, b ∷ bs))
    by true e again =
        let r = again (figure_of b e) in
        (r.0, ap (λ x. spelled n ++ (x ∷ bs)) (figure_is b e) ∙ sym (append_assoc (spelled n) ((48 + (b - 48)) ∷ []) bs) ∙ r.1, r.2, r.3)
    by false e again = (n, refl, refl, e)

numeral-found : (d b : ℕ) (bs : List ℕ) (f : Ratio) (w : List ℕ) → digit b ≡ true → literal_of (digits_after 0 (b ∷ bs)) ≡ Ok (f, w) → Found d (b ∷ bs) f w
numeral-found d b bs f w h e =
    let P = digits_after (b - 48) bs in
    let start : 0 * 10 + (b - 48) ≡ b - 48 = omega arith in
    let e' : literal_of P ≡ Ok (f, w) = ap literal_of (sym (cond-true (digit b) _ _ h ∙ ap (λ k. digits_after k bs) start)) ∙ e in
    let r = digits_out (figure (figure_of b h)) bs in
    let a = then-out (worked (lowest (whole P.0))) (λ q. Ok (q, P.1)) (f, w) e' in
    let same = pair_out a.0 f P.1 w a.2 in
    let low : lowest (whole P.0) ≡ Ok f = worked-out (lowest (whole P.0)) a.0 a.1 ∙ ap Ok same.0 in
    let is : Is (Some (whole (amount_of r.0))) f = subst (λ k. Is (Some (whole k)) f) r.2 (whole-gives P.0 f low) in
    record {
      expr = numeral r.0;
      begins = ap (λ x. x ∷ bs) (figure_is b h) ∙ r.1 ∙ ap (λ l. spelled r.0 ++ l) same.1;
      ends = subst Clear same.1 r.3;
      shallow = omega arith;
      stays = (f, is);
      number = is;
    }

-- ---- brackets
record FoundAll (d : ℕ) (m : Many) (t : List ℕ) (q : Ratio) (w : List ℕ) : Type 0 where
  args : Args
  begins : t ≡ listed args ++ (41 ∷ w)
  shallow : nesting_all args ≤ d
  stays : StaysAll m args
  number : Is (worth_all m args) q

moved : (d : ℕ) (m : Many) (t u : List ℕ) (q : Ratio) (w : List ℕ) → t ≡ u → FoundAll d m u q w → FoundAll d m t q w
moved d m t u q w e r = record { args = r.args; begins = e ∙ r.begins; shallow = r.shallow; stays = r.stays; number = r.number }

cut_joins : (bs : List ℕ) (p : List ℕ × List ℕ) → cut_at_space bs ≡ Some p → bs ≡ p.0 ++ p.1
cut_joins [] p e = absurd (cc)
cut_joins (b ∷ bs) p e = by (eqb b 32) (cut_at_space bs) refl (cut_joins bs) e
  where
    Some-out : (x y : List ℕ × List ℕ) → ◌≡◌ {A = Option (List ℕ × List ℕ)} (Some x) (Some y) → x ≡ y
    Some-out x y e = cc

    by : (t : Bool) (o : Option (List ℕ × List ℕ)) → cut_at_space bs ≡ o → ((q : List ℕ × List ℕ) → cut_at_space bs ≡ Some q → bs ≡ q.0 ++ q.1)
        → cond t (Some ([], b ∷ bs)) (onto b o) ≡ Some p → b ∷ bs ≡ p.0 ++ p.1
    by true o h again e = ap (λ x. x.0 ++ x.1) (Some-out ([], b ∷ bs) p e)
    by false None h again e = absurd (cc)
    by false (Some q) h again e = ap (λ l. b ∷ l) (again q h) ∙ ap (λ x. x.0 ++ x.1) (Some-out (b ∷ q.0, q.1) p e)

module _ (d : ℕ) (sound : (t : List ℕ) (f : Ratio) (w : List ℕ) → value_at d t ≡ Ok (f, w) → Found d t f w) where
  many_sound : (m : Many) (f : ℕ) (ts : Args) (v : Ratio) (t : List ℕ) (q : Ratio) (w : List ℕ) → nesting_all ts ≤ d → StaysAll m ts → Is (worth_all m ts) v
      → arguments (value_at d) (op_of m) f (record { number = count_of_all ts; result = Some v }) t ≡ Ok (q, w) → FoundAll d m (listed ts ++ t) q w
  many_sound m zero ts v t q w h s l e = absurd (no_turn (value_at d) (op_of m) (record { number = count_of_all ts; result = Some v }) t (q, w) e)
  many_sound m (suc f) ts v t q w h s l e =
      elim (turn (value_at d) (op_of m) f (record { number = count_of_all ts; result = Some v }) t q w e) [
        | closed a b ↦
            let all : ◌≡◌ {A = Result Ratio ValueFault} (Ok v) (Ok q) = sym (close_many m (count_of_all ts) v) ∙ b in
            let same : v ≡ q = cc in
            record { args = ts; begins = ap (λ x. listed ts ++ x) a; shallow = h; stays = s; number = subst (Is (worth_all m ts)) same l }
        | argued u x p s' a b c k ↦
            let r = sound u p x b in
            let o = counted-out (count_of_all ts) (combine (op_of m) (count_of_all ts) v p) s' c in
            let g = worked-out (lowest (join m v p)) o.0 (sym (combine-many m (count_of_all ts) v p) ∙ o.1) in
            let i = join-gives m (worth_all m ts) (worth r.expr) v p o.0 l r.number g in
            let low = r.shallow in
            moved d m (listed ts ++ t) (listed (also ts r.expr) ++ x) q w
            (ap (λ y. listed ts ++ y) (a ∙ ap (λ y. 32 ∷ y) r.begins) ∙ sym (append_assoc (listed ts) (32 ∷ written r.expr) x))
            (many_sound m f (also ts r.expr) o.0 x q w (omega arith) (s, r.stays, (o.0, i)) i (subst (λ z. arguments (value_at d) (op_of m) f z x ≡ Ok (q, w)) (sym o.2) k))
      ]

  -- the first argument
  record First (o : Operator) (t : List ℕ) (q : Ratio) (w : List ℕ) : Type 0 where
    turns : ℕ
    begun : List ℕ
    left : List ℕ
    value : Ratio
    text : t ≡ 32 ∷ begun
    read : value_at d begun ≡ Ok (value, left)
    rest : arguments (value_at d) o turns (record { number = 1; result = Some value }) left ≡ Ok (q, w)

  first : (o : Operator) (f : ℕ) (t : List ℕ) (q : Ratio) (w : List ℕ) → arguments (value_at d) o f none t ≡ Ok (q, w) → First o t q w
  first o zero t q w e = absurd (no_turn (value_at d) o none t (q, w) e)
  first o (suc f) t q w e =
      elim (turn (value_at d) o f none t q w e) [
        | closed a b ↦ absurd (refused Unreadable q b)
        | argued u x p s' a b c k ↦
            let same : record { number = 1; result = Some p } ≡ s' = cc in
            record { turns = f; begun = u; left = x; value = p; text = a; read = b; rest = subst (λ z. arguments (value_at d) o f z x ≡ Ok (q, w)) (sym same) k }
      ]

  many_start : (m : Many) (f : ℕ) (t : List ℕ) (q : Ratio) (w : List ℕ) → arguments (value_at d) (op_of m) f none t ≡ Ok (q, w) → FoundAll d m t q w
  many_start m f t q w e =
      let a = first (op_of m) f t q w e in
      let r = sound a.begun a.value a.left a.read in
      moved d m t (listed (only r.expr) ++ a.left) q w (a.text ∙ ap (λ y. 32 ∷ y) r.begins) (many_sound m a.turns (only r.expr) a.value a.left q w r.shallow r.stays r.number a.rest)

  -- the second one, for an operation that takes no third
  data Second (o : Operator) (p : Ratio) (t : List ℕ) (q : Ratio) (w : List ℕ) : Type 0 where
    alone : t ≡ 41 ∷ w → at_close o 1 (Some p) ≡ Ok q → Second o p t q w
    two : (u : List ℕ) (y : Ratio) → t ≡ 32 ∷ u → value_at d u ≡ Ok (y, 41 ∷ w) → combine o 1 p y ≡ Ok q → Second o p t q w

  module _ (o : Operator) (bad : (n : ℕ) (r : Option Ratio) (q : Ratio) → 3 ≤ n → at_close o n r ≡ Ok q → ⊥) (done : (v : Ratio) → at_close o 2 (Some v) ≡ Ok v) where
    third : (f : ℕ) (v : Ratio) (t : List ℕ) (q : Ratio) (w : List ℕ) → arguments (value_at d) o f (record { number = 2; result = Some v }) t ≡ Ok (q, w) → (t ≡ 41 ∷ w) × (v ≡ q)
    third zero v t q w e = absurd (no_turn (value_at d) o (record { number = 2; result = Some v }) t (q, w) e)
    third (suc f) v t q w e =
        elim (turn (value_at d) o f (record { number = 2; result = Some v }) t q w e) [
          | closed a b ↦ let all : ◌≡◌ {A = Result Ratio ValueFault} (Ok v) (Ok q) = sym (done v) ∙ b in let same : v ≡ q = cc in (a, same)
          | argued u x p s' a b c k ↦ let more = fold_number o 2 (Some v) p s' c in absurd (never (value_at d) o 3 bad f s' x q w (omega arith) k)
        ]

    second : (f : ℕ) (p : Ratio) (t : List ℕ) (q : Ratio) (w : List ℕ) → arguments (value_at d) o f (record { number = 1; result = Some p }) t ≡ Ok (q, w) → Second o p t q w
    second zero p t q w e = absurd (no_turn (value_at d) o (record { number = 1; result = Some p }) t (q, w) e)
    second (suc f) p t q w e =
        elim (turn (value_at d) o f (record { number = 1; result = Some p }) t q w e) [
          | closed a b ↦ alone a b
          | argued u x y s' a b c k ↦
              let g = counted-out 1 (combine o 1 p y) s' c in
              let z = third f g.0 x q w (subst (λ z. arguments (value_at d) o f z x ≡ Ok (q, w)) (sym g.2) k) in
              two u y a (b ∙ ap (λ l. Ok (y, l)) z.0) (g.1 ∙ ap Ok z.1)
        ]

  difference-sound : (f : ℕ) (t : List ℕ) (q : Ratio) (w : List ℕ) → arguments (value_at d) Difference f none t ≡ Ok (q, w) → Found (suc d) (40 ∷ (45 ∷ t)) q w
  difference-sound f t q w e =
      let a = first Difference f t q w e in
      let r = sound a.begun a.value a.left a.read in
      let low = r.shallow in
      elim (second Difference bad_difference (λ v. refl) a.turns a.value a.left q w a.rest) [
        | alone h k ↦
            let same : negative a.value ≡ q = cc in
            record {
              expr = opposite r.expr;
              begins = ap (λ l. 40 ∷ (45 ∷ l)) (a.text ∙ ap (λ y. 32 ∷ y) (r.begins ∙ ap (λ l. written r.expr ++ l) h) ∙ sym (one_text (written r.expr) w));
              ends = tt;
              shallow = omega arith;
              stays = r.stays;
              number = subst (Is (worth (opposite r.expr))) same (opposite_is (worth r.expr) a.value r.number);
            }
        | two u y h k c ↦
            let r' = sound u y (41 ∷ w) k in
            let low' = r'.shallow in
            let is = less_gives (worth r.expr) (worth r'.expr) a.value y q r.number r'.number (worked-out (subtract a.value y) q c) in
            record {
              expr = less r.expr r'.expr;
              begins = ap (λ l. 40 ∷ (45 ∷ l)) (a.text ∙ ap (λ y. 32 ∷ y) (r.begins ∙ ap (λ l. written r.expr ++ l) (h ∙ ap (λ y. 32 ∷ y) r'.begins)) ∙ sym (two_text (written r.expr) (written r'.expr) w));
              ends = tt;
              shallow = omega arith;
              stays = (r.stays, r'.stays, (q, is));
              number = is;
            }
      ]

  quotient-sound : (f : ℕ) (t : List ℕ) (q : Ratio) (w : List ℕ) → arguments (value_at d) Quotient f none t ≡ Ok (q, w) → Found (suc d) (40 ∷ (47 ∷ t)) q w
  quotient-sound f t q w e =
      let a = first Quotient f t q w e in
      let r = sound a.begun a.value a.left a.read in
      let low = r.shallow in
      elim (second Quotient bad_quotient (λ v. refl) a.turns a.value a.left q w a.rest) [
        | alone h k ↦ absurd (refused Unreadable q k)
        | two u y h k c ↦
            let r' = sound u y (41 ∷ w) k in
            let low' = r'.shallow in
            let is = over_gives (worth r.expr) (worth r'.expr) a.value y q r.number r'.number (worked-out (divide a.value y) q c) in
            record {
              expr = divided r.expr r'.expr;
              begins = ap (λ l. 40 ∷ (47 ∷ l)) (a.text ∙ ap (λ y. 32 ∷ y) (r.begins ∙ ap (λ l. written r.expr ++ l) (h ∙ ap (λ y. 32 ∷ y) r'.begins)) ∙ sym (two_text (written r.expr) (written r'.expr) w));
              ends = tt;
              shallow = omega arith;
              stays = (r.stays, r'.stays, (q, is));
              number = is;
            }
      ]

  other_sound : (f : ℕ) (t u : List ℕ) (q : Ratio) (w : List ℕ) → arguments (value_at d) Other f none t ≡ Ok (q, w) → Found (suc d) u q w
  other_sound f t u q w e = absurd (never (value_at d) Other 0 bad_other f none t q w (omega arith) e)

  many_found : (m : Many) (f : ℕ) (t u : List ℕ) (q : Ratio) (w : List ℕ) → u ≡ 40 ∷ (symbol m ++ t) → arguments (value_at d) (op_of m) f none t ≡ Ok (q, w) → Found (suc d) u q w
  many_found m f t u q w b e =
      let r = many_start m f t q w e in
      let low = r.shallow in
      record {
        expr = many m r.args;
        begins = b ∙ ap (λ l. 40 ∷ (symbol m ++ l)) r.begins ∙ text m r.args;
        ends = tt;
        shallow = omega arith;
        stays = r.stays;
        number = r.number;
      }
    where
      text : (m : Many) (ts : Args) → 40 ∷ (symbol m ++ (listed ts ++ (41 ∷ w))) ≡ written (many m ts) ++ w
      text sums ts = ap (λ l. 40 ∷ (43 ∷ l)) (sym (append_assoc (listed ts) (41 ∷ []) w))
      text products ts = ap (λ l. 40 ∷ (42 ∷ l)) (sym (append_assoc (listed ts) (41 ∷ []) w))

  -- the symbol c before t
  symbol-sound : (c f : ℕ) (t : List ℕ) (q : Ratio) (w : List ℕ) → arguments (value_at d) (sign_of c) f none t ≡ Ok (q, w) → Found (suc d) (40 ∷ (c ∷ t)) q w
  symbol-sound c f t q w e = by (eqb c 43) refl (eqb c 45) refl (eqb c 42) refl (eqb c 47) refl e
    where
      by : (i : Bool) → eqb c 43 ≡ i → (j : Bool) → eqb c 45 ≡ j → (k : Bool) → eqb c 42 ≡ k → (l : Bool) → eqb c 47 ≡ l
          → arguments (value_at d) (cond i Sum (cond j Difference (cond k Product (cond l Quotient Other)))) f none t ≡ Ok (q, w) → Found (suc d) (40 ∷ (c ∷ t)) q w
      by true a j b k h l g e = many_found sums f t (40 ∷ (c ∷ t)) q w (ap (λ n. 40 ∷ (n ∷ t)) (eqb-true c 43 a)) e
      by false a true b k h l g e = subst (λ n. Found (suc d) (40 ∷ (n ∷ t)) q w) (sym (eqb-true c 45 b)) (difference-sound f t q w e)
      by false a false b true h l g e = many_found products f t (40 ∷ (c ∷ t)) q w (ap (λ n. 40 ∷ (n ∷ t)) (eqb-true c 42 h)) e
      by false a false b false h true g e = subst (λ n. Found (suc d) (40 ∷ (n ∷ t)) q w) (sym (eqb-true c 47 g)) (quotient-sound f t q w e)
      by false a false b false h false g e = other_sound f t (40 ∷ (c ∷ t)) q w e

  name_sound : (name : List ℕ) (f : ℕ) (t : List ℕ) (q : Ratio) (w : List ℕ) → arguments (value_at d) (operator_of name) f none t ≡ Ok (q, w) → Found (suc d) (40 ∷ (name ++ t)) q w
  name_sound [] f t q w e = other_sound f t (40 ∷ t) q w e
  name_sound (c ∷ []) f t q w e = symbol-sound c f t q w e
  name_sound (c ∷ b ∷ bs) f t q w e = other_sound f t (40 ∷ (c ∷ (b ∷ (bs ++ t)))) q w e

  bracket-sound : (bs : List ℕ) (o : Option (List ℕ × List ℕ)) (q : Ratio) (w : List ℕ) → cut_at_space bs ≡ o → bracket (value_at d) o ≡ Ok (q, w) → Found (suc d) (40 ∷ bs) q w
  bracket-sound bs None q w h e = absurd (refused Unreadable (q, w) e)
  bracket-sound bs (Some p) q w h e = subst (λ l. Found (suc d) (40 ∷ l) q w) (sym (cut_joins bs p h)) (name_sound p.0 (length p.1) p.1 q w e)

pub value_sound : (d : ℕ) (t : List ℕ) (f : Ratio) (w : List ℕ) → value_at d t ≡ Ok (f, w) → Found d t f w
value_sound zero [] f w e = absurd (refused Unreadable (f, w) e)
value_sound zero (b ∷ bs) f w e = by (digit b) refl (eqb b 40) e
  where
    by : (x : Bool) → digit b ≡ x → (y : Bool) → cond x (literal_of (digits_after 0 (b ∷ bs))) (cond y (Err TooDeep) (Err Unreadable)) ≡ Ok (f, w) → Found zero (b ∷ bs) f w
    by true h y e = numeral-found zero b bs f w h e
    by false h true e = absurd (refused TooDeep (f, w) e)
    by false h false e = absurd (refused Unreadable (f, w) e)
value_sound (suc d) [] f w e = absurd (refused Unreadable (f, w) e)
value_sound (suc d) (b ∷ bs) f w e = by (value_sound d) (digit b) refl (eqb b 40) refl e
  where
    by : ((t : List ℕ) (f : Ratio) (w : List ℕ) → value_at d t ≡ Ok (f, w) → Found d t f w) → (x : Bool) → digit b ≡ x → (y : Bool) → eqb b 40 ≡ y
        → cond x (literal_of (digits_after 0 (b ∷ bs))) (cond y (bracket (value_at d) (cut_at_space bs)) (Err Unreadable)) ≡ Ok (f, w) → Found (suc d) (b ∷ bs) f w
    by below true h y k e = numeral-found (suc d) b bs f w h e
    by below false h true k e = subst (λ n. Found (suc d) (n ∷ bs) f w) (sym (eqb-true b 40 k)) (bracket-sound d below bs (cut_at_space bs) f w refl e)
    by below false h false k e = absurd (refused Unreadable (f, w) e)

-- ---- the two laws
pub arith_sound : (text : List ℕ) (f : Ratio) → arith_value text ≡ Ok f → Denotes text f
arith_sound text f e =
    let a = then-out (value_at most_open text) (λ p. Ok p.0) f e in
    let same : a.0.0 ≡ f = ok_out a.0.0 f a.2 in
    let r = value_sound most_open text a.0.0 a.0.1 a.1 in
    record { expr = r.expr; after = a.0.1; begins = r.begins; ends = r.ends; shallow = r.shallow; stays = r.stays; number = subst (Is (worth r.expr)) same r.number }

pub arith_complete : (text : List ℕ) (f : Ratio) → Denotes text f → arith_value text ≡ Ok f
arith_complete text f t =
    let r = taken t.expr most_open t.after t.shallow t.stays t.ends in
    ap (λ x. then x (λ p. Ok p.0)) (ap (value_at most_open) t.begins ∙ r.2) ∙ ap Ok (is_one (worth t.expr) r.0 f r.1 t.number)

-- an answer that is the definition's has both
pub answer_laws : (x : Result Ratio ValueFault) (text : List ℕ) → x ≡ arith_value text → IfOk x (Denotes text) × ((f : Ratio) → Denotes text f → x ≡ Ok f)
answer_laws x text e = (by x e, λ f t. e ∙ arith_complete text f t)
  where
    by : (x : Result Ratio ValueFault) → x ≡ arith_value text → IfOk x (Denotes text)
    by (Ok f) e = arith_sound text f (sym e)
    by (Err r) e = tt
