-- Physical lines joined to lines, and the first LF that ends a line. Assumes nothing.
use Rattle.std.proofs.Common.{append-nil, Option, Some, None, MatchOption, not, ◌≡◌, ℕ, ◌+◌, ◌-◌, ◌<◌, ◌≤◌, Bool, true, false, cond, ◌||◌, List, [], ◌∷◌, ◌++◌, length, take, drop, sym, refl, ap, ◌∙◌, subst, sub-one, arith, take-add}
use Rattle.std.proofs.lemmas.List.{append_assoc, drop-drop, length-drop, length-append, take_more, get_or-drop}
use Rattle.std.proofs.lemmas.Bool.{or_parts}
use Rattle.std.specs.Option.{option_map}
use Rattle.std.proofs.lemmas.List.Sums.{prefix_len_passes}
use Rattle.lines.specs.declared.LineMode.TheVariants.{Joined}
use Rattle.lines.specs.Lines.{is_lf, ended, ends_at, FirstEnds, line_len, front, blank, begins, opens, trimmed, onto, lines_of}
use Rattle.lines.proofs.Cut.{ended-cut, ended-none, piece_cut, up_next-front, lf_at}

-- the first physical line, at what it leaves: n is what `line_feed` answered
pub joined_cut : (xs : List ℕ) (n : ℕ) → n ≡ line_len xs → n < length xs →
    lines_of Joined xs ≡ cond (blank (front xs) || opens (drop (n + 1) xs)) (trimmed (take n xs) ∷ lines_of Joined (drop (n + 1) xs)) (onto (take n xs ++ 10 ∷ []) (lines_of Joined (drop (n + 1) xs)))
joined_cut xs n e h = grind (arith, ended-cut xs, piece_cut xs, up_next-front (drop (n + 1) xs))

trim_cons : (a : ℕ) (p : List ℕ) → 0 < length p → trimmed (a ∷ p) ≡ a ∷ trimmed p
trim_cons a [] h = grind arith
trim_cons a (b ∷ p) h = simp sub-one (grind arith)

-- a CR at the end of a part that is not empty is the one at the end of the whole
pub trim_append : (xs p : List ℕ) → 0 < length p → trimmed (xs ++ p) ≡ xs ++ trimmed p
trim_append [] p h = refl
trim_append (x ∷ xs) p h = grind (arith, trim_cons x (xs ++ p), trim_append xs p h, length-append {A = ℕ})

pub trim_after : (p l : List ℕ) → (p ++ 10 ∷ []) ++ trimmed l ≡ trimmed (p ++ 10 ∷ l)
trim_after p [] = grind (arith, append-nil, trim_append p (10 ∷ []))
trim_after p (c ∷ cs) = grind (arith, trim_append (p ++ 10 ∷ []) (c ∷ cs), append_assoc p (10 ∷ []) (c ∷ cs))

-- r is the first LF that ends the line
abbrev pub IsFirst : Bool → List ℕ → Option ℕ → Type 0
IsFirst alone s r = MatchOption r ((k : ℕ) → k < length s → ends_at alone s k ≡ false) (λ i. (i < length s) × (ends_at alone s i ≡ true) × ((k : ℕ) → k < i → ends_at alone s k ≡ false))

-- no LF stands before the first one, and that one ends the line as the physical lines on its two sides say
before : (alone : Bool) (s : List ℕ) (k : ℕ) → k < line_len s → ends_at alone s k ≡ false
before alone s k h = let e = prefix_len_passes (λ b. not (is_lf b)) s k 0 h in grind arith

at_first : (alone : Bool) (s : List ℕ) → line_len s < length s → ends_at alone s (line_len s) ≡ (alone || opens (drop (line_len s + 1) s))
at_first alone s h = let e = lf_at s h in grind arith

here : (alone : Bool) (s : List ℕ) (r : Option ℕ) → line_len s < length s → (alone || opens (drop (line_len s + 1) s)) ≡ true → IsFirst alone s r → r ≡ Some (line_len s)
here alone s None lt o h = grind (arith, at_first alone s lt, h (line_len s) lt)
here alone s (Some i) lt o h = grind (arith, at_first alone s lt, before alone s i, h.2 (line_len s))

-- the same search in what is left behind n bytes
later : (alone : Bool) (s : List ℕ) (n k : ℕ) → ends_at alone (drop n s) k ≡ ends_at alone s (n + k)
later alone s n k = grind (arith, get_or-drop n s k 0, drop-drop (k + 1) n s)

-- none of the first n bytes is an LF that ends the line
abbrev pub Searched : Bool → List ℕ → ℕ → Type 0
Searched alone s n = (k : ℕ) → k < n → k < length s → ends_at alone s k ≡ false

-- nor is one up to the next LF
pub searched_to : (alone : Bool) (s : List ℕ) (from n : ℕ) → Searched alone s from → n ≡ line_len (drop from s) → Searched alone s (from + n)
searched_to alone s from n h e k lt within = grind (arith, h k, before alone (drop from s) (k - from), later alone s from (k - from))

pub searched_on : (alone : Bool) (s : List ℕ) (from n : ℕ) → Searched alone s from → n ≡ line_len (drop from s) → (from + n < length s → ends_at alone s (from + n) ≡ false) → Searched alone s (from + n + 1)
searched_on alone s from n h e last k lt within = grind (arith, searched_to alone s from n h e k, last)

shift : (alone : Bool) (s : List ℕ) (n : ℕ) (r : Option ℕ) → ((k : ℕ) → k < n → ends_at alone s k ≡ false) → IsFirst alone s r → (q : Option ℕ) × IsFirst alone (drop n s) q × (r ≡ option_map (λ j. n + j) q)
shift alone s n None f h = (None, (λ k lt. grind (arith, later alone s n k, h (n + k), length-drop n s)), refl)
shift alone s n (Some i) f h =
    let le : n ≤ i = grind (arith, f i) in
    (Some (i - n), (grind (arith, length-drop n s), grind (arith, later alone s n (i - n)), λ k lt. grind (arith, later alone s n k, h.2 (n + k))), grind arith)

-- the line goes on after its first physical line: its end in what is left is its end in the whole
longer : (s : List ℕ) (r q : Option ℕ) → r ≡ option_map (λ j. line_len s + 1 + j) q → line_len s < length s → lines_of Joined s ≡ onto (take (line_len s) s ++ 10 ∷ []) (lines_of Joined (drop (line_len s + 1) s)) → FirstEnds (drop (line_len s + 1) s) q → FirstEnds s r
longer s r None r_is h e f = rw r_is (e ∙ ap (onto (take (line_len s) s ++ 10 ∷ [])) f)
longer s r (Some i) r_is h e f =
    let n = line_len s in
    let t = drop (n + 1) s in
    let lt : i < length s - (n + 1) = simp length-drop at f.0 in
    let whole : take n s ++ 10 ∷ take i t ≡ take (n + 1 + i) s = rw (take-add (n + 1) i s, take_more s n 0 h, lf_at s h, append_assoc) refl in
    let d : drop (i + 1) t ≡ drop (n + 1 + i + 1) s = drop-drop (i + 1) (n + 1) s ∙ ap (λ k. drop k s) (omega arith) in
    rw r_is (omega arith, e ∙ ap (onto (take n s ++ 10 ∷ [])) f.1 ∙ ap (λ l. l ∷ lines_of Joined (drop (i + 1) t)) (trim_after (take n s) (take i t) ∙ ap trimmed whole) ∙ ap (λ y. trimmed (take (n + 1 + i) s) ∷ lines_of Joined y) d)

pub first_ends : (ps : List (List ℕ)) (s : List ℕ) (r : Option ℕ) → ended s ≡ ps → IsFirst (blank (front s)) s r → FirstEnds s r
first_ends [] s None e h = rw e refl
first_ends [] s (Some i) e h =
    absurd (grind (arith, ended-cut s, before (blank (front s)) s i))
first_ends (p ∷ ps) s r e h =
    let n = line_len s in
    let t = drop (n + 1) s in
    let alone = blank (front s) in
    let lt : n < length s = grind (arith, ended-none s) in
    let left : ended t ≡ ps = let k = ended-cut s lt in cc in
    let P : Bool → Type 0 = λ b. (alone || opens t) ≡ b → lines_of Joined s ≡ cond b (trimmed (take n s) ∷ lines_of Joined t) (onto (take n s ++ 10 ∷ []) (lines_of Joined t)) → FirstEnds s r in
    let at : (b : Bool) → P b = λ b. elim b as P [
      | true ↦ λ o j. subst (FirstEnds s) (sym (here alone s r lt o h)) (lt, j)
      | false ↦ λ o j.
          let k = or_parts alone (opens t) o in
          let f : (i : ℕ) → i < n + 1 → ends_at alone s i ≡ false = λ i i_lt. grind (arith, before alone s i, at_first alone s lt) in
          let q = shift alone s (n + 1) r f h in
          let same = k.0 ∙ sym (or_parts (begins (front t)) (blank (front t)) k.1).1 in
          longer s r q.0 q.2 lt j (first_ends ps t q.0 left (subst (λ b. IsFirst b t q.0) same q.1))
    ] in
    at (alone || opens t) refl (joined_cut s n refl lt)
