-- The greatest common divisor. Assumes nothing.
use Rattle.std.specs.Prelude.{ℕ, zero, suc, ◌%◌}

-- Euclid's steps, at most as many as the first number says
abbrev pub gcd_by : ℕ → ℕ → ℕ → ℕ
gcd_by zero a b = a
gcd_by (suc f) a zero = a
gcd_by (suc f) a (suc b) = gcd_by f (suc b) (a % suc b)

-- the second number is enough steps
abbrev pub gcd : ℕ → ℕ → ℕ
gcd a b = gcd_by b a b
