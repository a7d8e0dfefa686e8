-- Expressions of arithmetic: how each is written, and which rational number it is. Nothing here knows how a text is read. Assumes nothing.
use Rattle.std.specs.Prelude.{ℕ, ◌+◌, ◌*◌, ◌<◌, max, cond, List, [], ◌∷◌, ◌++◌, Some, None, codes, Option, ◌==◌, unsigned_abs}
use Rattle.std.specs.Option.{option_map}
use Rattle.fraction.specs.Ratios.{Ratio, whole, sum, product, negative, difference, quotient}
use Rattle.fraction.specs.Laws.{Lowest}

-- ---- numerals: one decimal figure or more
pub record Figure : Type 0 where
  pub amount : ℕ
  pub small : amount < 10

pub data Numeral : Type 0 where
  figure : Figure → Numeral
  more : Numeral → Figure → Numeral

abbrev pub amount_of : Numeral → ℕ
amount_of (figure c) = c.amount
amount_of (more n c) = amount_of n * 10 + c.amount

abbrev pub spelled : Numeral → List ℕ
spelled (figure c) = (48 + c.amount) ∷ []
spelled (more n c) = spelled n ++ ((48 + c.amount) ∷ [])

-- ---- expressions
-- the two operations that take one number or more
pub data Many : Type 0 where
  sums : Many
  products : Many

mutual
  pub data Expr : Type 0 where
    numeral : Numeral → Expr
    many : Many → Args → Expr
    opposite : Expr → Expr
    less : Expr → Expr → Expr
    divided : Expr → Expr → Expr

  pub data Args : Type 0 where
    only : Expr → Args
    also : Args → Expr → Args

-- as it is written
abbrev pub symbol : Many → List ℕ
symbol sums = codes "+"
symbol products = codes "*"

abbrev pub bracketed : List ℕ → List ℕ → List ℕ
bracketed op args = codes "(" ++ (op ++ (args ++ codes ")"))

abbrev mutual
  pub written : Expr → List ℕ
  written (numeral n) = spelled n
  written (many m ts) = bracketed (symbol m) (listed ts)
  written (opposite e) = bracketed (codes "-") (32 ∷ written e)
  written (less a b) = bracketed (codes "-") ((32 ∷ written a) ++ (32 ∷ written b))
  written (divided a b) = bracketed (codes "/") ((32 ∷ written a) ++ (32 ∷ written b))

  -- each after a space
  pub listed : Args → List ℕ
  listed (only e) = 32 ∷ written e
  listed (also ts e) = listed ts ++ (32 ∷ written e)

-- how many brackets are open at once
abbrev mutual
  pub nesting : Expr → ℕ
  nesting (numeral n) = 0
  nesting (many m ts) = nesting_all ts + 1
  nesting (opposite e) = nesting e + 1
  nesting (less a b) = max (nesting a) (nesting b) + 1
  nesting (divided a b) = max (nesting a) (nesting b) + 1

  pub nesting_all : Args → ℕ
  nesting_all (only e) = nesting e
  nesting_all (also ts e) = max (nesting_all ts) (nesting e)

-- ---- the number that it is; a division by zero is none
abbrev pub both : (Ratio → Ratio → Ratio) → Option Ratio → Option Ratio → Option Ratio
both f None o = None
both f (Some p) None = None
both f (Some p) (Some q) = Some (f p q)

abbrev pub nonzero : Option Ratio → Option Ratio
nonzero None = None
nonzero (Some q) = cond (unsigned_abs q.numer == 0) None (Some q)

abbrev pub join : Many → Ratio → Ratio → Ratio
join sums p q = sum p q
join products p q = product p q

abbrev mutual
  pub worth : Expr → Option Ratio
  worth (numeral n) = Some (whole (amount_of n))
  worth (many m ts) = worth_all m ts
  worth (opposite e) = option_map negative (worth e)
  worth (less a b) = both difference (worth a) (worth b)
  worth (divided a b) = both quotient (worth a) (nonzero (worth b))

  pub worth_all : Many → Args → Option Ratio
  worth_all m (only e) = worth e
  worth_all m (also ts e) = both (join m) (worth_all m ts) (worth e)

-- ---- the bounds
-- f is that number in lowest terms, and fits
abbrev pub Is : Option Ratio → Ratio → Type 0
Is None f = ⊥
Is (Some q) f = (0 < q.denom) × Lowest q f

abbrev pub Fits : Option Ratio → Type 0
Fits o = (f : Ratio) × Is o f

-- every numeral and every partial result, from the left, fits
abbrev mutual
  pub Stays : Expr → Type 0
  Stays (numeral n) = Fits (worth (numeral n))
  Stays (many m ts) = StaysAll m ts
  Stays (opposite e) = Stays e
  Stays (less a b) = Stays a × Stays b × Fits (worth (less a b))
  Stays (divided a b) = Stays a × Stays b × Fits (worth (divided a b))

  pub StaysAll : Many → Args → Type 0
  StaysAll m (only e) = Stays e
  StaysAll m (also ts e) = StaysAll m ts × Stays e × Fits (worth_all m (also ts e))
