-- Which fractions fit. This is the only place that says so: to change the bounds, change `fits` here and the test `within_bounds` in
-- the code. The numerator and the denominator must stay below 2^63. Assumes nothing.
use Rattle.std.specs.Prelude.{ℕ, Bool, ◌&&◌, nat_le}

-- the size of a numerator, of either sign, and a denominator, in lowest terms
abbrev pub fits : ℕ → ℕ → Bool
fits size below = nat_le size 2147483647 && nat_le below 2147483647
