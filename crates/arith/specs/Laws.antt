-- What is read, in arithmetic's own words. Assumes nothing.
use Rattle.std.specs.Prelude.{◌≡◌, ℕ, ◌≤◌, false, List, [], ◌∷◌, ◌++◌, Ok}
use Rattle.fraction.specs.Ratios.{Ratio}
use Rattle.arith.specs.Values.{arith_value, digit, most_open}
use Rattle.arith.specs.Expressions.{Expr, numeral, many, opposite, less, divided, written, nesting, worth, Is, Stays}

-- no figure follows
abbrev pub Clear : List ℕ → Type 0
Clear [] = Unit {0}
Clear (b ∷ bs) = digit b ≡ false

-- a numeral is written to its last figure
abbrev pub Ends : Expr → List ℕ → Type 0
Ends (numeral n) rest = Clear rest
Ends (many m ts) rest = Unit {0}
Ends (opposite e) rest = Unit {0}
Ends (less a b) rest = Unit {0}
Ends (divided a b) rest = Unit {0}

-- the text begins with an expression that has no more brackets open at once than are allowed and stays within the bounds, and f is
-- its number in lowest terms
pub record Denotes (text : List ℕ) (f : Ratio) : Type 0 where
  pub expr : Expr
  pub after : List ℕ
  pub begins : text ≡ written expr ++ after
  pub ends : Ends expr after
  pub shallow : nesting expr ≤ most_open
  pub stays : Stays expr
  pub number : Is (worth expr) f

-- what is answered is the number that the text denotes, and every text that denotes one is taken
pub record ArithStands : Type 0 where
  pub sound : (text : List ℕ) (f : Ratio) → arith_value text ≡ Ok f → Denotes text f
  pub complete : (text : List ℕ) (f : Ratio) → Denotes text f → arith_value text ≡ Ok f
