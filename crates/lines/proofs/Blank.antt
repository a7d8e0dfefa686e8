-- A blank start, told by the first byte that is an LF or no separator. Assumes nothing.
use Rattle.std.proofs.Common.{◌≡◌, ℕ, Bool, true, false, cond, not, ◌+◌, suc, take, ◌||◌, List, [], ◌∷◌, Option, Some, None, refl, ap, ◌∙◌, arith}
use Rattle.std.specs.List.{find}
use Rattle.words.specs.Words.{separates}
use Rattle.lines.specs.Lines.{is_lf, blank, front, line_len}

abbrev pub stops : ℕ → Bool
stops b = is_lf b || not (separates b)

-- what the first byte that is an LF or no separator says of those before the first LF
abbrev pub told : Option ℕ → Bool
told None = true
told (Some b) = is_lf b

told_more : (b : ℕ) (s : List ℕ) → told (find stops s) ≡ blank (front s) → (x : Bool) → is_lf b ≡ x → told (find stops (b ∷ s)) ≡ blank (front (b ∷ s))
told_more b s h true e =
    let f : front (b ∷ s) ≡ [] = ap (λ x. take (cond (not x) (1 + line_len s) 0) (b ∷ s)) e in
    grind (arith, f)
told_more b s h false e =
    let n : 1 + line_len s ≡ suc (line_len s) = omega arith in
    let f : front (b ∷ s) ≡ b ∷ front s = ap (λ x. take (cond (not x) (1 + line_len s) 0) (b ∷ s)) e ∙ ap (λ k. take k (b ∷ s)) n in
    grind (arith, f, h)

pub front_told : (s : List ℕ) → told (find stops s) ≡ blank (front s)
front_told [] = refl
front_told (b ∷ s) = told_more b s (front_told s) (is_lf b) refl
