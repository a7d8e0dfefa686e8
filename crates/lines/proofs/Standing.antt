-- The laws of the lines. Assumes nothing.
use Rattle.std.proofs.Common.{◌≡◌, ℕ, ◌≤◌, Bool, true, false, cond, ◌||◌, ◌⊎◌, List, [], ◌∷◌, ◌++◌, length, sym, refl, ap, ◌∙◌, subst, inl, inr, ⊎_elim, arith}
use Rattle.std.specs.List.{AllByRecursion}
use Rattle.std.proofs.lemmas.List.{append_assoc, append-nil, length-append}
use Rattle.std.proofs.ByRecursion.{All-append}
use Rattle.std.proofs.lemmas.Bool.{eq-eqb, true≢false}
use Rattle.lines.specs.declared.LineMode.{LineMode}
use Rattle.lines.specs.declared.LineMode.TheVariants.{Joined, EachLine}
use Rattle.lines.specs.Lines.{is_lf, held, longer, ended, piece, front, up_next, blank, begins, ends, opens, trimmed, onto, joined_lines, lines_of}
use Rattle.lines.specs.Laws.{unended, written, Plain, ends_here, GoesOn, CutInto, LinesStand}
use Rattle.lines.proofs.Cut.{front-more, nothing-ended, piece-held}
use Rattle.lines.proofs.Joining.{trim_after}

-- the physical lines and the last piece are the bytes, and hold no LF
pub all_bytes : (bs : List ℕ) → written (ended bs) ++ piece bs ≡ bs
all_bytes [] = refl
all_bytes (b ∷ bs) = grind (arith, all_bytes bs)

longer-plain : (b : ℕ) → is_lf b ≡ false → (ps : List (List ℕ)) → AllByRecursion Plain ps → AllByRecursion Plain (longer b ps)
longer-plain b e [] h = tt
longer-plain b e (p ∷ ps) h = ((e, h.0), h.1)

pub ended-plain : (bs : List ℕ) → AllByRecursion Plain (ended bs)
ended-plain [] = tt
ended-plain (b ∷ bs) = grind (arith, ended-plain bs, longer-plain)

pub piece-plain : (bs : List ℕ) → Plain (piece bs)
piece-plain [] = tt
piece-plain (b ∷ bs) = grind (arith, piece-plain bs, nothing-ended bs)

-- `EachLine`
written-append : (ps qs : List (List ℕ)) → written (ps ++ qs) ≡ written ps ++ written qs
written-append [] qs = refl
written-append (p ∷ ps) qs = grind (arith, written-append ps qs, append_assoc p (10 ∷ written ps) (written qs))

last_written : (ps : List (List ℕ)) (f : List ℕ) → written ps ++ written (cond (held f) (f ∷ []) []) ≡ (written ps ++ f) ++ cond (held f) (10 ∷ []) []
last_written ps [] = grind (arith, append-nil)
last_written ps (c ∷ cs) = grind (arith, append_assoc)

each_written : (bs : List ℕ) → written (lines_of EachLine bs) ≡ bs ++ cond (unended bs) (10 ∷ []) []
each_written bs = grind (arith, written-append (ended bs), last_written (ended bs) (piece bs), all_bytes bs, piece-held bs)

last_plain : (f : List ℕ) → Plain f → AllByRecursion Plain (cond (held f) (f ∷ []) [])
last_plain f h = grind arith

each_plain : (bs : List ℕ) → AllByRecursion Plain (lines_of EachLine bs)
each_plain bs = All-append Plain (ended bs) (cond (held (piece bs)) (piece bs ∷ []) []) (ended-plain bs) (last_plain (piece bs) (piece-plain bs))

-- a physical line at the front of bytes
plain_front : (p r : List ℕ) → Plain p → front (p ++ 10 ∷ r) ≡ p
plain_front [] r h = refl
plain_front (b ∷ p) r h = grind (arith, front-more, plain_front p r h.1)

plain_all : (f : List ℕ) → Plain f → front f ≡ f
plain_all [] h = refl
plain_all (b ∷ f) h = grind (arith, front-more, plain_all f h.1)

next_front : (ps : List (List ℕ)) (f : List ℕ) → AllByRecursion Plain ps → Plain f → front (written ps ++ f) ≡ up_next ps f
next_front [] f hs h = plain_all f h
next_front (p ∷ ps) f hs h = grind (arith, append_assoc, plain_front p)

-- what stands after the last LF
plain_ended : (p : List ℕ) → Plain p → ended p ≡ []
plain_ended [] h = refl
plain_ended (b ∷ p) h = grind (arith, plain_ended p h.1)

plain_piece : (p : List ℕ) → Plain p → piece p ≡ p
plain_piece p h = grind (arith, nothing-ended p, plain_ended p h)

held-ended : (p r : List ℕ) → held (ended (p ++ 10 ∷ r)) ≡ true
held-ended [] r = refl
held-ended (b ∷ p) r = grind (arith, held-ended p r)

piece-after : (p r : List ℕ) → piece (p ++ 10 ∷ r) ≡ piece r
piece-after [] r = refl
piece-after (b ∷ p) r = grind (arith, piece-after p r, held-ended p r)

-- an LF in p, an LF and r, where p has none: it is that one, or one of r
split : (p r xs ys : List ℕ) → Plain p → p ++ 10 ∷ r ≡ xs ++ 10 ∷ ys →
    ((xs ≡ p) × (ys ≡ r)) ⊎ ((zs : List ℕ) × (xs ≡ p ++ 10 ∷ zs) × (r ≡ zs ++ 10 ∷ ys))
split [] r [] ys h e = inl (refl, cc)
split [] r (x ∷ xs) ys h e = inr (xs, (cc), (cc))
split (b ∷ p) r [] ys h e = let k : b ≡ 10 = cc in absurd (true≢false (sym (eq-eqb b 10 k) ∙ h.0))
split (b ∷ p) r (x ∷ xs) ys h e =
    let k : p ++ 10 ∷ r ≡ xs ++ 10 ∷ ys = cc in
    let j : x ≡ b = cc in
    ⊎_elim
    (λ q. inl (let m = q.0 in cc, q.1))
    (λ q. inr (q.0, (let m = q.1 in cc), q.2))
    (split p r xs ys h.1 k)

no_lf : (xs zs : List ℕ) → Plain (xs ++ 10 ∷ zs) → ⊥
no_lf [] zs h = true≢false h.0
no_lf (x ∷ xs) zs h = no_lf xs zs h.1

plain_goes_on : (p ys : List ℕ) → Plain p → GoesOn p ys
plain_goes_on p ys h xs zs e = absurd (no_lf xs zs (subst Plain e h))

after_lf : (p l ys : List ℕ) → ends_here (p ++ 10 ∷ l) ys ≡ ends_here l ys
after_lf p l ys = grind (arith, piece-after p l)

goes_on_more : (p l ys : List ℕ) → Plain p → ends_here p (l ++ ys) ≡ false → GoesOn l ys → GoesOn (p ++ 10 ∷ l) ys
goes_on_more p l ys h f g xs zs e = ⊎_elim
    (λ q. grind (arith, q.0, q.1))
    (λ q. grind (arith, q.1, after_lf p q.0 (zs ++ ys), g q.0 zs q.2))
    (split p l xs zs h e)

-- a physical line that does not end its line
cut_onto : (p r : List ℕ) (ls : List (List ℕ)) → Plain p → ends_here p r ≡ false → CutInto r ls → CutInto (p ++ 10 ∷ r) (onto (p ++ 10 ∷ []) ls)
cut_onto p r [] h f g = goes_on_more p r [] h (ap (ends_here p) (append-nil r) ∙ f) g
cut_onto p r (line ∷ ls) h f (l, after, one, cut) = (
  p ++ 10 ∷ l,
  after,
  record {
    cut_at = ap (λ x. p ++ 10 ∷ x) one.cut_at ∙ sym (append_assoc p (10 ∷ l) (10 ∷ after));
    no_cr = ap (λ x. (p ++ 10 ∷ []) ++ x) one.no_cr ∙ trim_after p l;
    goes_on = goes_on_more p l (10 ∷ after) h (ap (ends_here p) (sym one.cut_at) ∙ f) one.goes_on;
    line_ends = after_lf p l after ∙ one.line_ends;
  },
  cut,
)

joined_all : (ps : List (List ℕ)) (f : List ℕ) → AllByRecursion Plain ps → Plain f → CutInto (written ps ++ f) (joined_lines ps f)
joined_all [] f hs h = plain_goes_on f [] h
joined_all (p ∷ ps) f hs h =
    let r = written ps ++ f in
    let q = ap (λ x. blank x || opens r) (plain_piece p hs.0) ∙ ap (λ y. blank p || (begins y || blank y)) (next_front ps f hs.1 h) in
    let P : Bool → Type 0 = λ t. ends_here p r ≡ t → CutInto (p ++ 10 ∷ r) (cond t (trimmed p ∷ joined_lines ps f) (onto (p ++ 10 ∷ []) (joined_lines ps f))) in
    let at : (t : Bool) → P t = λ t. elim t as P [
      | true ↦ λ e. (p, r, record { cut_at = refl; no_cr = refl; goes_on = plain_goes_on p (10 ∷ r) hs.0; line_ends = e }, joined_all ps f hs.1 h)
      | false ↦ λ e. cut_onto p r (joined_lines ps f) hs.0 e (joined_all ps f hs.1 h)
    ] in
    subst (λ x. CutInto x (joined_lines (p ∷ ps) f)) (sym (append_assoc p (10 ∷ written ps) f)) (at (ends p (up_next ps f)) q)

joined : (bs : List ℕ) → CutInto bs (lines_of Joined bs)
joined bs = subst (λ x. CutInto x (lines_of Joined bs)) (all_bytes bs) (joined_all (ended bs) (piece bs) (ended-plain bs) (piece-plain bs))

-- how many lines there are
written-long : (ps : List (List ℕ)) → length ps ≤ length (written ps)
written-long [] = grind arith
written-long (p ∷ ps) = grind (arith, written-long ps, length-append {A = ℕ})

onto-long : (xs : List ℕ) (ls : List (List ℕ)) → length (onto xs ls) ≡ length ls
onto-long xs ls = grind arith

joined_few : (ps : List (List ℕ)) (f : List ℕ) → length (joined_lines ps f) ≤ length ps
joined_few [] f = grind arith
joined_few (p ∷ ps) f = grind (arith, joined_few ps f, onto-long)

pub few : (m : LineMode) (bs : List ℕ) → length (lines_of m bs) ≤ length bs
few m bs = let e = ap length (all_bytes bs) in grind (arith, joined_few (ended bs) (piece bs), written-long (ended bs), length-append {A = ℕ}, length-append {A = List ℕ})

pub lines_stand : LinesStand
lines_stand = record { each_written = each_written; each_plain = each_plain; joined = joined; cut = piece-held; few = few }
