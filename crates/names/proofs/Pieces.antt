-- The pieces of a joined text between `!` signs. Assumes nothing.
use Rattle.std.proofs.Common.{◌≡◌, ℕ, ◌+◌, ◌-◌, ◌*◌, ◌<◌, ◌≤◌, Bool, true, false, cond, ◌&&◌, eqb, ltb, leb, List, [], ◌∷◌, ◌++◌, length, map, take, drop, position, Some, None, Ok, Err, Result, refl, ap, ◌∙◌, arith, length-append}
use lib.ListN.{length-map}
use Rattle.std.specs.List.{prefix_len}
use Rattle.std.proofs.lemmas.Bool.{cond-true, cond-false, ne_eqb, lt-leb, lt-ltb}
use Rattle.std.proofs.lemmas.Bool.Decides.{nat_tests}
use Rattle.std.proofs.lemmas.List.Folds.{prefix_len-append}
use Rattle.std.proofs.lemmas.List.Sums.{prefix_len-le-length}
use Rattle.std.proofs.lemmas.List.Splits.{length-slice_split}
use Rattle.ids.specs.declared.number.NumberFault.{NumberFault}
use Rattle.ids.specs.declared.number.NumberFault.TheVariants.{Empty, NotDigit, TooLarge}
use Rattle.ids.specs.Numbers.{digit, worth_from, sign, unsigned, numeral, number_up_to}
use Rattle.words.specs.declared.joined.Bars.{Bars}
use Rattle.words.specs.declared.joined.Bars.TheVariants.{Bare, Front, Both}
use Rattle.words.specs.Words.{split_by, longer}
use Rattle.words.specs.Joined.{as_space, spaces, joined_text, front_bars}
use Rattle.words.proofs.Bytes.{space_same}
use Rattle.words.proofs.Cut.{taken_at, taken_none}
use Rattle.names.specs.QuantKinds.{bang, by_name, if_number, of_pieces, quant_kind}

space_bang : (b : ℕ) → bang (as_space b) ≡ bang b
space_bang = space_same bang (λ b h. ne_eqb b 33 (λ e. absurd (omega arith)))

space_digit : (b : ℕ) → digit (as_space b) ≡ digit b
space_digit = space_same digit (λ b h. ap (λ t. t && leb b 57) (lt-leb 48 b (omega arith)))

space_plus : (b : ℕ) → eqb (as_space b) 43 ≡ eqb b 43
space_plus = space_same (λ b. eqb b 43) (λ b h. ne_eqb b 43 (λ e. absurd (omega arith)))

space_worth : (b : ℕ) → as_space b - 48 ≡ b - 48
space_worth = space_same (λ b. b - 48) (λ b h. omega arith)

leading_spaces : (p : ℕ → Bool) → ((b : ℕ) → p (as_space b) ≡ p b) → (s : List ℕ) → prefix_len p (spaces s) ≡ prefix_len p s
leading_spaces p h [] = refl
leading_spaces p h (b ∷ s) = ap (λ t. cond t (1 + prefix_len p (spaces s)) 0) (h b) ∙ ap (λ n. cond (p b) (1 + n) 0) (leading_spaces p h s)

worth-spaces : (n : ℕ) (s : List ℕ) → worth_from n (spaces s) ≡ worth_from n s
worth-spaces n [] = refl
worth-spaces n (b ∷ s) = worth-spaces (n * 10 + (as_space b - 48)) s ∙ ap (λ d. worth_from (n * 10 + d) s) (space_worth b)

sign-spaces : (s : List ℕ) → sign (spaces s) ≡ sign s
sign-spaces [] = refl
sign-spaces (b ∷ s) = ap {B = ℕ} (λ t. cond t 1 0) (space_plus b)

unsigned-spaces : (s : List ℕ) → unsigned (spaces s) ≡ spaces (unsigned s)
unsigned-spaces [] = refl
unsigned-spaces (b ∷ s) = ap (λ t. cond t (spaces s) (spaces (b ∷ s))) (space_plus b) ∙ out (eqb b 43)
  where
    out : (t : Bool) → cond t (spaces s) (spaces (b ∷ s)) ≡ spaces (cond t s (b ∷ s))
    out true = refl
    out false = refl

-- what is told of n digits, d of which lead, with value v
abbrev shape : ℕ → ℕ → ℕ → ℕ → ℕ → Result ℕ NumberFault
shape l k n d v = cond (eqb n 0) (Err Empty) (cond (ltb d n) (Err (NotDigit (k + d))) (cond (leb v l) (Ok v) (Err TooLarge)))

-- a number is read alike with a space for each separator
pub number-spaces : (l : ℕ) (s : List ℕ) → number_up_to l (spaces s) ≡ number_up_to l s
number-spaces l s = ap (λ k. numeral l k (unsigned (spaces s))) (sign-spaces s) ∙ ap (numeral l (sign s)) (unsigned-spaces s) ∙ same (sign s) (unsigned s)
  where
    same : (k : ℕ) (ds : List ℕ) → numeral l k (spaces ds) ≡ numeral l k ds
    same k ds =
        ap (λ n. shape l k n (prefix_len digit (spaces ds)) (worth_from 0 (spaces ds))) (length-map ds as_space)
        ∙ ap (λ d. shape l k (length ds) d (worth_from 0 (spaces ds))) (leading_spaces digit space_digit ds)
        ∙ ap (shape l k (length ds) (prefix_len digit ds)) (worth-spaces 0 ds)

-- ---- the pieces of a joined text: those of its span, with spaces for separators, and with its bars
abbrev onto_last : ℕ → List (List ℕ) → List (List ℕ)
onto_last x [] = []
onto_last x (w ∷ []) = (w ++ x ∷ []) ∷ []
onto_last x (w ∷ v ∷ ws) = w ∷ onto_last x (v ∷ ws)

abbrev dressed : Bars → List (List ℕ) → List (List ℕ)
dressed Bare ws = ws
dressed Front ws = longer 124 ws
dressed Both ws = longer 124 (onto_last 124 ws)

pieces-spaces : (s : List ℕ) → split_by bang (spaces s) ≡ map spaces (split_by bang s)
pieces-spaces [] = refl
pieces-spaces (b ∷ s) = ap (λ t. cond t ([] ∷ split_by bang (spaces s)) (longer (as_space b) (split_by bang (spaces s)))) (space_bang b) ∙ ap (λ ws. cond (bang b) ([] ∷ ws) (longer (as_space b) ws)) (pieces-spaces s) ∙ by (bang b) (split_by bang s)
  where
    by : (t : Bool) (ws : List (List ℕ)) → cond t ([] ∷ map spaces ws) (longer (as_space b) (map spaces ws)) ≡ map spaces (cond t ([] ∷ ws) (longer b ws))
    by true ws = refl
    by false [] = refl
    by false (w ∷ ws) = refl

pieces_bar : (s : List ℕ) → split_by bang (s ++ 124 ∷ []) ≡ onto_last 124 (split_by bang s)
pieces_bar [] = refl
pieces_bar (b ∷ s) = ap (λ ws. cond (bang b) ([] ∷ ws) (longer b ws)) (pieces_bar s) ∙ by (bang b) (split_by bang s) (omega (arith, length-slice_split bang s))
  where
    by : (t : Bool) (ws : List (List ℕ)) → 0 < length ws → cond t ([] ∷ onto_last 124 ws) (longer b (onto_last 124 ws)) ≡ onto_last 124 (cond t ([] ∷ ws) (longer b ws))
    by t [] h = absurd (omega arith)
    by true (w ∷ ws) h = refl
    by false (w ∷ []) h = refl
    by false (w ∷ v ∷ ws) h = refl

pieces-joined : (b : Bars) (s : List ℕ) → split_by bang (joined_text b s) ≡ dressed b (map spaces (split_by bang s))
pieces-joined Bare s = pieces-spaces s
pieces-joined Front s = ap (longer 124) (pieces-spaces s)
pieces-joined Both s = ap (longer 124) (pieces_bar (spaces s) ∙ ap (onto_last 124) (pieces-spaces s))

-- a text that ends with a bar is no number
bar_numeral : (l k : ℕ) (y t p : List ℕ) → if_number t p (numeral l k (y ++ 124 ∷ [])) ≡ by_name t
bar_numeral l k y t p =
    let long = length-append y (124 ∷ []) in
    let few = prefix_len-le-length digit y in
    let lead : prefix_len digit (y ++ 124 ∷ []) ≤ length y = rw prefix_len-append (grind (arith, nat_tests)) in
    ap (if_number t p) (cond-false (eqb (length (y ++ 124 ∷ [])) 0) _ _ (ne_eqb _ 0 (λ e. absurd (omega arith))) ∙ cond-true (ltb (prefix_len digit (y ++ 124 ∷ [])) (length (y ++ 124 ∷ []))) _ _ (lt-ltb _ _ (omega arith)))

bar_number : (l : ℕ) (x t p : List ℕ) → if_number t p (number_up_to l (x ++ 124 ∷ [])) ≡ by_name t
bar_number l [] t p = bar_numeral l 0 [] t p
bar_number l (b ∷ x) t p = by (eqb b 43)
  where
    by : (u : Bool) → if_number t p (numeral l (cond u 1 0) (cond u (x ++ 124 ∷ []) (b ∷ x ++ 124 ∷ []))) ≡ by_name t
    by true = bar_numeral l 1 x t p
    by false = bar_numeral l 0 (b ∷ x) t p

-- ---- the name by the places of the first and the second `!` in its span
module _ (s : List ℕ) where
  by_pieces : (b : Bars) (ws : List (List ℕ)) → split_by bang s ≡ ws → quant_kind (joined_text b s) ≡ of_pieces (joined_text b s) (dressed b (map spaces ws))
  by_pieces b ws e = ap (of_pieces (joined_text b s)) (pieces-joined b s ∙ ap (λ v. dressed b (map spaces v)) e)

  numbered : (t p q : List ℕ) → if_number t p (number_up_to 18446744073709551615 (spaces q)) ≡ if_number t p (number_up_to 18446744073709551615 q)
  numbered t p q = ap (if_number t p) (number-spaces 18446744073709551615 q)

  pub told_none : (b : Bars) → position bang s ≡ None → quant_kind (joined_text b s) ≡ by_name (joined_text b s)
  told_none Bare h = by_pieces Bare (s ∷ []) (taken_none bang s h)
  told_none Front h = by_pieces Front (s ∷ []) (taken_none bang s h)
  told_none Both h = by_pieces Both (s ∷ []) (taken_none bang s h)

  module _ (i : ℕ) (h : position bang s ≡ Some i) where
    two : position bang (drop (i + 1) s) ≡ None → split_by bang s ≡ take i s ∷ drop (i + 1) s ∷ []
    two n = taken_at bang s i h ∙ ap (λ ws. take i s ∷ ws) (taken_none bang (drop (i + 1) s) n)

    pub told_barred : position bang (drop (i + 1) s) ≡ None → quant_kind (joined_text Both s) ≡ by_name (joined_text Both s)
    told_barred n = by_pieces Both (take i s ∷ drop (i + 1) s ∷ []) (two n) ∙ bar_number 18446744073709551615 (spaces (drop (i + 1) s)) (joined_text Both s) (124 ∷ spaces (take i s))

    pub told_last : (b : Bars) → (b ≡ Both → ⊥) → position bang (drop (i + 1) s) ≡ None → quant_kind (joined_text b s) ≡ if_number (joined_text b s) (joined_text (front_bars b) (take i s)) (number_up_to 18446744073709551615 (drop (i + 1) s))
    told_last Bare o n = by_pieces Bare (take i s ∷ drop (i + 1) s ∷ []) (two n) ∙ numbered _ _ (drop (i + 1) s)
    told_last Front o n = by_pieces Front (take i s ∷ drop (i + 1) s ∷ []) (two n) ∙ numbered _ _ (drop (i + 1) s)
    told_last Both o n = absurd (o refl)

    more : (b : Bars) (q : List ℕ) (ws : List (List ℕ)) → 0 < length ws → split_by bang s ≡ take i s ∷ q ∷ ws → quant_kind (joined_text b s) ≡ if_number (joined_text b s) (joined_text (front_bars b) (take i s)) (number_up_to 18446744073709551615 q)
    more b q [] l e = absurd (omega arith)
    more Bare q (w ∷ ws) l e = by_pieces Bare (take i s ∷ q ∷ w ∷ ws) e ∙ numbered _ _ q
    more Front q (w ∷ ws) l e = by_pieces Front (take i s ∷ q ∷ w ∷ ws) e ∙ numbered _ _ q
    more Both q (w ∷ ws) l e = by_pieces Both (take i s ∷ q ∷ w ∷ ws) e ∙ numbered _ _ q

    pub told_inner : (b : Bars) (j : ℕ) → position bang (drop (i + 1) s) ≡ Some j → quant_kind (joined_text b s) ≡ if_number (joined_text b s) (joined_text (front_bars b) (take i s)) (number_up_to 18446744073709551615 (take j (drop (i + 1) s)))
    told_inner b j n =
        let r = drop (i + 1) s in
        more b (take j r) (split_by bang (drop (j + 1) r)) (omega (arith, length-slice_split bang (drop (j + 1) r))) (taken_at bang s i h ∙ ap (λ ws. take i s ∷ ws) (taken_at bang r j n))
