-- Every expression that stays within the bounds is read. Assumes nothing.
use Rattle.std.proofs.Common.{◌≡◌, ℕ, zero, suc, ◌+◌, ◌-◌, ◌<◌, ◌≤◌, true, false, eqb, List, [], ◌∷◌, ◌++◌, length, get_or, Some, Ok, sym, refl, ap, ◌∙◌, subst, arith}
use Rattle.std.proofs.lemmas.List.{append_assoc, length-append}
use Rattle.std.proofs.lemmas.Bool.{cond-true, cond-false}
use Rattle.std.proofs.lemmas.Bool.Decides.{nat_tests}
use Rattle.fraction.specs.Ratios.{Ratio, whole, negative}
use Rattle.fraction.specs.Fractions.{lowest}
use Rattle.arith.specs.declared.Operator.{Operator}
use Rattle.arith.specs.declared.Operator.TheVariants.{Sum, Difference, Product, Quotient}
use Rattle.arith.specs.Values.{Read, Tally, none, digit, digits_after, literal_of, sign_of, value_at, bracket, arguments, combine, counted, fold_in, at_close, then, worked}
use Rattle.arith.specs.Expressions.{Figure, Numeral, figure, more, amount_of, spelled, Many, sums, products, symbol, Expr, numeral, many, opposite, less, divided, Args, only, also, written, listed, nesting, nesting_all, join, worth, worth_all, Is, Stays, StaysAll}
use Rattle.arith.specs.Laws.{Clear, Ends}
use Rattle.arith.proofs.Steps.{digits_stop, value_digit}
use Rattle.arith.proofs.Worths.{join-needs, less_needs, over_needs, opposite_is, is-lowest}

-- ---- numerals
pub figure_digit : (c : Figure) → digit (48 + c.amount) ≡ true
figure_digit c = let h = c.small in grind (arith, nat_tests)

digits_take : (n : Numeral) (w : List ℕ) → digits_after 0 (spelled n ++ w) ≡ digits_after (amount_of n) w
digits_take (figure c) w = cond-true (digit (48 + c.amount)) _ _ (figure_digit c) ∙ ap (λ k. digits_after k w) (omega arith)
digits_take (more n c) w =
    ap (digits_after 0) (append_assoc (spelled n) ((48 + c.amount) ∷ []) w)
    ∙ digits_take n ((48 + c.amount) ∷ w)
    ∙ cond-true (digit (48 + c.amount)) _ _ (figure_digit c)
    ∙ ap (λ k. digits_after k w) (omega arith)

starts : (n : Numeral) (w : List ℕ) → (0 < length (spelled n ++ w)) × (digit (get_or (spelled n ++ w) 0 0) ≡ true)
starts (figure c) w = (omega arith, figure_digit c)
starts (more n c) w = subst (λ l. (0 < length l) × (digit (get_or l 0 0) ≡ true)) (sym (append_assoc (spelled n) ((48 + c.amount) ∷ []) w)) (starts n ((48 + c.amount) ∷ w))

numeral-read : (d : ℕ) (n : Numeral) (w : List ℕ) (f : Ratio) → Clear w → Is (Some (whole (amount_of n))) f → value_at d (spelled n ++ w) ≡ Ok (f, w)
numeral-read d n w f c l =
    let s = starts n w in
    value_digit d (spelled n ++ w) s.0 s.1 ∙ ap literal_of (digits_take n w ∙ digits_stop (amount_of n) w c) ∙ ap (λ x. then (worked x) (λ q. Ok (q, w))) (is-lowest (whole (amount_of n)) f l)

-- ---- brackets
opens : (d c : ℕ) (u : List ℕ) → eqb c 32 ≡ false → value_at (suc d) (40 ∷ (c ∷ (32 ∷ u))) ≡ arguments (value_at d) (sign_of c) (length (32 ∷ u)) none (32 ∷ u)
opens d c u n = ap (bracket (value_at d)) (cond-false (eqb c 32) _ _ n)

module _ (inner : List ℕ → Read) (o : Operator) where
  step : (f : ℕ) (s s' : Tally) (t u : List ℕ) (p : Ratio) → inner t ≡ Ok (p, u) → fold_in o s.number s.result p ≡ Ok s' → arguments inner o (suc f) s (32 ∷ t) ≡ arguments inner o f s' u
  step f s s' t u p e h =
      ap (λ x. then x (λ p. then (fold_in o s.number s.result p.0) (λ t. arguments inner o f t p.1))) e
      ∙ ap (λ x. then x (λ t. arguments inner o f t u)) h

  last : (f : ℕ) (s : Tally) (w : List ℕ) (q : Ratio) → at_close o s.number s.result ≡ Ok q → arguments inner o (suc f) s (41 ∷ w) ≡ Ok (q, w)
  last f s w q e = ap (λ x. then x (λ q. Ok (q, w))) e

  -- one argument, and two
  one_read : (f : ℕ) (t w : List ℕ) (p q : Ratio) → 2 ≤ f → inner t ≡ Ok (p, 41 ∷ w) → at_close o 1 (Some p) ≡ Ok q → arguments inner o f none (32 ∷ t) ≡ Ok (q, w)
  one_read zero t w p q h e k = absurd (omega arith)
  one_read (suc zero) t w p q h e k = absurd (omega arith)
  one_read (suc (suc f)) t w p q h e k = step (suc f) none (record { number = 1; result = Some p }) t (41 ∷ w) p e refl ∙ last f (record { number = 1; result = Some p }) w q k

  two_read : (f : ℕ) (t u w : List ℕ) (p q r : Ratio) → 3 ≤ f → inner t ≡ Ok (p, 32 ∷ u) → inner u ≡ Ok (q, 41 ∷ w) → combine o 1 p q ≡ Ok r → at_close o 2 (Some r) ≡ Ok r → arguments inner o f none (32 ∷ t) ≡ Ok (r, w)
  two_read zero t u w p q r h e g c k = absurd (omega arith)
  two_read (suc zero) t u w p q r h e g c k = absurd (omega arith)
  two_read (suc (suc zero)) t u w p q r h e g c k = absurd (omega arith)
  two_read (suc (suc (suc f))) t u w p q r h e g c k =
      step (suc (suc f)) none (record { number = 1; result = Some p }) t (32 ∷ u) p e refl
      ∙ step (suc f) (record { number = 1; result = Some p }) (record { number = 2; result = Some r }) u (41 ∷ w) q g (ap (counted 1) c)
      ∙ last f (record { number = 2; result = Some r }) w r k

-- how the texts stand
pub one_text : (A w : List ℕ) → ((32 ∷ A) ++ (41 ∷ [])) ++ w ≡ 32 ∷ (A ++ (41 ∷ w))
one_text A w = ap (λ l. 32 ∷ l) (append_assoc A (41 ∷ []) w)

pub two_text : (A B w : List ℕ) → (((32 ∷ A) ++ (32 ∷ B)) ++ (41 ∷ [])) ++ w ≡ 32 ∷ (A ++ (32 ∷ (B ++ (41 ∷ w))))
two_text A B w = ap (λ l. 32 ∷ l) (append_assoc (A ++ (32 ∷ B)) (41 ∷ []) w ∙ append_assoc A (32 ∷ B) (41 ∷ w))

-- ---- one or more
abbrev pub op_of : Many → Operator
op_of sums = Sum
op_of products = Product

abbrev pub count_of_all : Args → ℕ
count_of_all (only e) = 1
count_of_all (also ts e) = count_of_all ts + 1

-- the turns that the arguments take, before f more
abbrev turns_all : Args → ℕ → ℕ
turns_all (only e) f = suc f
turns_all (also ts e) f = turns_all ts (suc f)

turns_is : (ts : Args) (f : ℕ) → turns_all ts f ≡ count_of_all ts + f
turns_is (only e) f = omega arith
turns_is (also ts e) f = turns_is ts (suc f) ∙ omega arith

count_short : (ts : Args) → count_of_all ts ≤ length (listed ts)
count_short (only e) = omega arith
count_short (also ts e) = let h = count_short ts in simp length-append (omega arith)

listed-begins : (ts : Args) (w : List ℕ) → (u : List ℕ) × (listed ts ++ w ≡ 32 ∷ u)
listed-begins (only e) w = (written e ++ w, refl)
listed-begins (also ts e) w = let r = listed-begins ts ((32 ∷ written e) ++ w) in (r.0, append_assoc (listed ts) (32 ∷ written e) w ∙ r.1)

pub combine-many : (m : Many) (n : ℕ) (p q : Ratio) → combine (op_of m) n p q ≡ worked (lowest (join m p q))
combine-many sums n p q = refl
combine-many products n p q = refl

pub close_many : (m : Many) (n : ℕ) (p : Ratio) → at_close (op_of m) n (Some p) ≡ Ok p
close_many sums n p = refl
close_many products n p = refl

opens-many : (m : Many) (d : ℕ) (u : List ℕ) → value_at (suc d) (40 ∷ (symbol m ++ (32 ∷ u))) ≡ arguments (value_at d) (op_of m) (length (32 ∷ u)) none (32 ∷ u)
opens-many sums d u = opens d 43 u refl
opens-many products d u = opens d 42 u refl

many_read : (m : Many) (ts : Args) (d : ℕ) (w : List ℕ) (v : Ratio)
    → ((f : ℕ) → arguments (value_at d) (op_of m) (turns_all ts f) none (listed ts ++ (41 ∷ w)) ≡ arguments (value_at d) (op_of m) f (record { number = count_of_all ts; result = Some v }) (41 ∷ w))
    → value_at (suc d) (written (many m ts) ++ w) ≡ Ok (v, w)
many_read m ts d w v h =
    let t = listed ts ++ (41 ∷ w) in
    let b = listed-begins ts (41 ∷ w) in
    let short = count_short ts in
    let long : length t ≡ length (listed ts) + suc (length w) = length-append (listed ts) (41 ∷ w) in
    let left = length t - count_of_all ts - 1 in
    let turns : length t ≡ turns_all ts (suc left) = omega (arith, turns_is ts (suc left)) in
    text m ∙ ap (λ l. value_at (suc d) (40 ∷ (symbol m ++ l))) b.1 ∙ opens-many m d b.0
    ∙ ap (λ l. arguments (value_at d) (op_of m) (length l) none l) (sym b.1)
    ∙ ap (λ f. arguments (value_at d) (op_of m) f none t) turns
    ∙ h (suc left)
    ∙ last (value_at d) (op_of m) left (record { number = count_of_all ts; result = Some v }) w v (close_many m (count_of_all ts) v)
  where
    text : (m : Many) → value_at (suc d) (written (many m ts) ++ w) ≡ value_at (suc d) (40 ∷ (symbol m ++ (listed ts ++ (41 ∷ w))))
    text sums = ap (λ l. value_at (suc d) (40 ∷ (43 ∷ l))) (append_assoc (listed ts) (41 ∷ []) w)
    text products = ap (λ l. value_at (suc d) (40 ∷ (42 ∷ l))) (append_assoc (listed ts) (41 ∷ []) w)

ends-clear : (e : Expr) (w : List ℕ) → Clear w → Ends e w
ends-clear (numeral n) w c = c
ends-clear (many m ts) w c = tt
ends-clear (opposite e) w c = tt
ends-clear (less a b) w c = tt
ends-clear (divided a b) w c = tt

-- ---- all of them
abbrev pub Taken : ℕ → Expr → List ℕ → Type 0
Taken d e w = (f : Ratio) × Is (worth e) f × (value_at d (written e ++ w) ≡ Ok (f, w))

abbrev TakenAll : ℕ → Many → Args → List ℕ → Type 0
TakenAll d m ts w =
    (v : Ratio) × Is (worth_all m ts) v
    × ((f : ℕ) → arguments (value_at d) (op_of m) (turns_all ts f) none (listed ts ++ w) ≡ arguments (value_at d) (op_of m) f (record { number = count_of_all ts; result = Some v }) w)

one_long : (A w : List ℕ) → 2 ≤ length (32 ∷ (A ++ (41 ∷ w)))
one_long A w = simp length-append (omega arith)

two_long : (A B w : List ℕ) → 3 ≤ length (32 ∷ (A ++ (32 ∷ (B ++ (41 ∷ w)))))
two_long A B w = simp length-append (omega arith)

mutual
  pub taken : (e : Expr) (d : ℕ) (w : List ℕ) → nesting e ≤ d → Stays e → Ends e w → Taken d e w
  taken (numeral n) d w h s c = (s.0, s.1, numeral-read d n w s.0 c s.1)
  taken (many m ts) zero w h s c = absurd (omega arith)
  taken (many m ts) (suc d) w h s c =
      let r = taken_all ts m d (41 ∷ w) (omega arith) s refl in
      (r.0, r.1, many_read m ts d w r.0 r.2)
  taken (opposite e) zero w h s c = absurd (omega arith)
  taken (opposite e) (suc d) w h s c =
      let r = taken e d (41 ∷ w) (omega arith) s (ends-clear e (41 ∷ w) refl) in (
        negative r.0,
        opposite_is (worth e) r.0 r.1,
        ap (λ l. value_at (suc d) (40 ∷ (45 ∷ l))) (one_text (written e) w)
            ∙ opens d 45 (written e ++ (41 ∷ w)) refl
            ∙ one_read (value_at d) Difference (length (32 ∷ (written e ++ (41 ∷ w)))) (written e ++ (41 ∷ w)) w r.0 (negative r.0) (one_long (written e) w) r.2 refl,
      )
  taken (less a b) zero w h s c = absurd (omega arith)
  taken (less a b) (suc d) w h s c =
      let u = written b ++ (41 ∷ w) in
      let x = taken a d (32 ∷ u) (omega arith) s.0 (ends-clear a (32 ∷ u) refl) in
      let y = taken b d (41 ∷ w) (omega arith) s.1 (ends-clear b (41 ∷ w) refl) in
      let f = s.2.0 in (
        f,
        s.2.1,
        ap (λ l. value_at (suc d) (40 ∷ (45 ∷ l))) (two_text (written a) (written b) w)
            ∙ opens d 45 (written a ++ (32 ∷ u)) refl
            ∙ two_read (value_at d) Difference (length (32 ∷ (written a ++ (32 ∷ u)))) (written a ++ (32 ∷ u)) u w x.0 y.0 f (two_long (written a) (written b) w) x.2 y.2
            (ap worked (less_needs (worth a) (worth b) x.0 y.0 f x.1 y.1 s.2.1)) refl,
      )
  taken (divided a b) zero w h s c = absurd (omega arith)
  taken (divided a b) (suc d) w h s c =
      let u = written b ++ (41 ∷ w) in
      let x = taken a d (32 ∷ u) (omega arith) s.0 (ends-clear a (32 ∷ u) refl) in
      let y = taken b d (41 ∷ w) (omega arith) s.1 (ends-clear b (41 ∷ w) refl) in
      let f = s.2.0 in (
        f,
        s.2.1,
        ap (λ l. value_at (suc d) (40 ∷ (47 ∷ l))) (two_text (written a) (written b) w)
            ∙ opens d 47 (written a ++ (32 ∷ u)) refl
            ∙ two_read (value_at d) Quotient (length (32 ∷ (written a ++ (32 ∷ u)))) (written a ++ (32 ∷ u)) u w x.0 y.0 f (two_long (written a) (written b) w) x.2 y.2
            (ap worked (over_needs (worth a) (worth b) x.0 y.0 f x.1 y.1 s.2.1)) refl,
      )

  taken_all : (ts : Args) (m : Many) (d : ℕ) (w : List ℕ) → nesting_all ts ≤ d → StaysAll m ts → Clear w → TakenAll d m ts w
  taken_all (only e) m d w h s c =
      let r = taken e d w h s (ends-clear e w c) in
      (r.0, r.1, λ f. step (value_at d) (op_of m) f none (record { number = 1; result = Some r.0 }) (written e ++ w) w r.0 r.2 refl)
  taken_all (also ts e) m d w h s c =
      let x = taken_all ts m d (32 ∷ (written e ++ w)) (omega arith) s.0 refl in
      let y = taken e d w (omega arith) s.1 (ends-clear e w c) in
      let v = s.2.0 in
      let n = count_of_all ts in (
        v,
        s.2.1,
        λ f.
            ap (arguments (value_at d) (op_of m) (turns_all ts (suc f)) none) (append_assoc (listed ts) (32 ∷ written e) w)
            ∙ x.2 (suc f)
            ∙ step (value_at d) (op_of m) f (record { number = n; result = Some x.0 }) (record { number = n + 1; result = Some v }) (written e ++ w) w y.0 y.2
            (ap (counted n) (combine-many m n x.0 y.0 ∙ ap worked (join-needs m (worth_all m ts) (worth e) x.0 y.0 v x.1 y.1 s.2.1))),
      )
