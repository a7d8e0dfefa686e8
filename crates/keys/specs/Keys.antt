-- What a kind of key is. Assumes nothing.
use Rattle.std.specs.Prelude.{◌≡◌, ℕ, Bool, true}

-- the equality is an equivalence, and equal keys have one hash
pub record Lawful {K : Type 0} (alike : K → K → Bool) (code : K → ℕ) : Type 0 where
  pub self : (x : K) → alike x x ≡ true
  pub back : (x y : K) → alike x y ≡ true → alike y x ≡ true
  pub on : (x y z : K) → alike x y ≡ true → alike y z ≡ true → alike x z ≡ true
  pub coded : (x y : K) → alike x y ≡ true → code x ≡ code y
