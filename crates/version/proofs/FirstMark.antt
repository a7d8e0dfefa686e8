-- Where the first byte of a kind stands. Assumes nothing.
use Rattle.std.proofs.Common.{◌≡◌, ℕ, ◌+◌, ◌==◌, List, [], ◌∷◌, take, drop, position, Some, None, Option, refl, ap, ◌∙◌, sym, arith}
use Rattle.std.proofs.lemmas.Bool.Decides.{nat_tests}
use Rattle.version.specs.Reader.{cut_at}

-- w cut at place i, or not at all
abbrev pub cut_by : List ℕ → Option ℕ → List ℕ × Option (List ℕ)
cut_by w None = (w, None)
cut_by w (Some i) = (take i w, Some (drop (i + 1) w))

at_first : (m : ℕ) (w : List ℕ) → cut_at m w ≡ cut_by w (position (λ b. b == m) w)
at_first m [] = refl
at_first m (b ∷ bs) = let h = at_first m bs in grind (arith, nat_tests)

pub cut_found : (m : ℕ) (w : List ℕ) (o : Option ℕ) → o ≡ position (λ b. b == m) w → cut_by w o ≡ cut_at m w
cut_found m w o h = ap (cut_by w) h ∙ sym (at_first m w)
