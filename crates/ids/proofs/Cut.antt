-- Where the first `#` stands. Assumes nothing.
use Rattle.std.proofs.Common.{◌≡◌, ℕ, ◌+◌, ◌==◌, List, [], ◌∷◌, take, drop, position, option_map, Option, refl, ap, ◌∙◌, sym, arith}
use Rattle.std.proofs.lemmas.Bool.Decides.{nat_tests}
use Rattle.ids.specs.Ids.{cut_at_hash}

at_first : (w : List ℕ) → cut_at_hash w ≡ option_map (λ i. (take i w, drop (i + 1) w)) (position (λ b. b == 35) w)
at_first [] = refl
at_first (b ∷ bs) = let h = at_first bs in grind (arith, nat_tests)

pub cut_at : (w : List ℕ) (o : Option ℕ) → o ≡ position (λ b. b == 35) w → option_map (λ i. (take i w, drop (i + 1) w)) o ≡ cut_at_hash w
cut_at w o h = ap (option_map (λ i. (take i w, drop (i + 1) w))) h ∙ sym (at_first w)
