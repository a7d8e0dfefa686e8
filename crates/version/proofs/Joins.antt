-- A cut joined again, and what was joined cut: texts at a byte, and fields at dots. Assumes nothing.
use Rattle.std.proofs.Common.{◌≡◌, ℕ, Bool, true, not, eqb, List, [], ◌∷◌, ◌++◌, Some, None, Option, sym, refl, ap, ◌∙◌, arith}
use Rattle.std.proofs.lemmas.List.Splits.{join_with_byte-slice_split}
use Rattle.std.proofs.lemmas.Bool.Decides.{nat_tests}
use Rattle.std.proofs.lemmas.List.{append-nil}
use Rattle.std.proofs.lemmas.Bool.{and_parts}
use Rattle.version.specs.Grammar.{every, dotted, marked}
use Rattle.version.specs.Reader.{cut_at, fields, fields_of}
use Rattle.version.proofs.FieldCuts.{fields-cut}

-- the byte m and the text after it, or nothing
abbrev pub back : ℕ → Option (List ℕ) → List ℕ
back m None = []
back m (Some t) = m ∷ t

-- no byte is m
abbrev pub clear : ℕ → List ℕ → Bool
clear m t = every (λ b. not (eqb b m)) t

pub cut_back : (m : ℕ) (t : List ℕ) → (cut_at m t).0 ++ back m (cut_at m t).1 ≡ t
cut_back m [] = refl
cut_back m (b ∷ bs) = let h = cut_back m bs in grind (arith, nat_tests)

pub cut_clear : (m : ℕ) (t : List ℕ) (o : Option (List ℕ)) → clear m t ≡ true → cut_at m (t ++ back m o) ≡ (t, o)
cut_clear m [] None h = refl
cut_clear m [] (Some u) h = grind (arith, nat_tests)
cut_clear m (b ∷ bs) o h = let rest = cut_clear m bs o in grind (arith, nat_tests)

-- ---- fields
pub marked-fields : (m : ℕ) (o : Option (List ℕ)) → marked m (fields_of o) ≡ back m o
marked-fields m None = refl
marked-fields m (Some t) =
    ap (marked m) (fields-cut t) ∙ ap (λ r. m ∷ r) (ap dotted (sym (fields-cut t)) ∙ join_with_byte-slice_split 46 t)

fields_back : (t : List ℕ) (o : Option (List ℕ)) → clear 46 t ≡ true → fields (t ++ back 46 o) ≡ t ∷ fields_of o
fields_back t o h = fields-cut (t ++ back 46 o) ∙ ap (λ p. p.0 ∷ fields_of p.1) (cut_clear 46 t o h)

fields-dotted : (t : List ℕ) (ts : List (List ℕ)) → every (clear 46) (t ∷ ts) ≡ true → fields (dotted (t ∷ ts)) ≡ t ∷ ts
fields-dotted t [] h = ap fields (sym (append-nil t)) ∙ fields_back t None (and_parts (clear 46 t) true h).0
fields-dotted t (u ∷ us) h =
    let p = and_parts (clear 46 t) (every (clear 46) (u ∷ us)) h in
    fields_back t (Some (dotted (u ∷ us))) p.0 ∙ ap (λ r. t ∷ r) (fields-dotted u us p.1)

-- the fields as one text, if there are any
abbrev pub text_of : List (List ℕ) → Option (List ℕ)
text_of [] = None
text_of (t ∷ ts) = Some (dotted (t ∷ ts))

pub fields-text : (ts : List (List ℕ)) → every (clear 46) ts ≡ true → fields_of (text_of ts) ≡ ts
fields-text [] h = refl
fields-text (t ∷ ts) h = fields-dotted t ts h

pub marked-text : (m : ℕ) (ts : List (List ℕ)) → marked m ts ≡ back m (text_of ts)
marked-text m [] = refl
marked-text m (t ∷ ts) = refl
