-- The values of `arith`: digits, or `(`, an operator up to the first space, then for each argument a space and a value, then `)`.
-- `+` and `*` take one argument or more, `-` one or two, `/` two. Each argument is folded in when it is read; those past the allowed
-- number, and all under another operator, are only read. A wrong number of them, or another operator, is unreadable at the closing
-- bracket. Assumes nothing.
use Rattle.std.specs.Prelude.{ℕ, zero, suc, ◌+◌, ◌-◌, ◌*◌, Bool, cond, ◌&&◌, List, [], ◌∷◌, length, Some, None, Ok, Err, Option, Result, ◌==◌, nat_le}
use Rattle.fraction.specs.declared.FractionFault.{FractionFault}
use Rattle.fraction.specs.Ratios.{Ratio, whole, negative}
use Rattle.fraction.specs.Fractions.{lowest, add, subtract, multiply, divide}
use Rattle.arith.specs.declared.Operator.{Operator}
use Rattle.arith.specs.declared.Operator.TheVariants.{Sum, Difference, Product, Quotient, Other}
use Rattle.arith.specs.declared.ValueFault.{ValueFault}
use Rattle.arith.specs.declared.ValueFault.TheVariants.{Unreadable, TooDeep}
use Rattle.arith.specs.Faults.{value_fault}

-- a number, and the text after it
abbrev pub Read : Type 0
Read = Result (Ratio × List ℕ) ValueFault

-- one step after another: the first refusal is the answer
abbrev pub then : {X Y E : Type 0} → Result X E → (X → Result Y E) → Result Y E
then (Ok x) f = f x
then (Err e) f = Err e

-- what the arithmetic says, as an answer of the reader
abbrev pub worked : Result Ratio FractionFault → Result Ratio ValueFault
worked (Ok q) = Ok q
worked (Err e) = Err (value_fault e)

abbrev pub digit : ℕ → Bool
digit b = nat_le 48 b && nat_le b 57

-- the digits at the front, which go on the number n, and the text after them
abbrev pub digits_after : ℕ → List ℕ → ℕ × List ℕ
digits_after n [] = (n, [])
digits_after n (b ∷ bs) = cond (digit b) (digits_after (n * 10 + (b - 48)) bs) (n, b ∷ bs)

abbrev pub literal_of : ℕ × List ℕ → Read
literal_of p = then (worked (lowest (whole p.0))) (λ q. Ok (q, p.1))

-- the operator
abbrev pub sign_of : ℕ → Operator
sign_of b = cond (b == 43) Sum (cond (b == 45) Difference (cond (b == 42) Product (cond (b == 47) Quotient Other)))

abbrev pub operator_of : List ℕ → Operator
operator_of [] = Other
operator_of (b ∷ []) = sign_of b
operator_of (b ∷ c ∷ bs) = Other

-- what stands before the first space, and the text from it on
abbrev pub onto : ℕ → Option (List ℕ × List ℕ) → Option (List ℕ × List ℕ)
onto b None = None
onto b (Some p) = Some (b ∷ p.0, p.1)

abbrev pub cut_at_space : List ℕ → Option (List ℕ × List ℕ)
cut_at_space [] = None
cut_at_space (b ∷ bs) = cond (b == 32) (Some ([], b ∷ bs)) (onto b (cut_at_space bs))

-- how many arguments are read, and what they come to
pub record Tally : Type 0 where
  pub number : ℕ
  pub result : Option Ratio

abbrev pub none : Tally
none = record { number = 0; result = None }

abbrev pub counted : ℕ → Result Ratio ValueFault → Result Tally ValueFault
counted n (Ok q) = Ok (record { number = n + 1; result = Some q })
counted n (Err e) = Err e

-- the argument q after n others that come to p
abbrev pub combine : Operator → ℕ → Ratio → Ratio → Result Ratio ValueFault
combine Sum n p q = worked (add p q)
combine Product n p q = worked (multiply p q)
combine Difference n p q = cond (n == 1) (worked (subtract p q)) (Ok p)
combine Quotient n p q = cond (n == 1) (worked (divide p q)) (Ok p)
combine Other n p q = Ok p

abbrev pub fold_in : Operator → ℕ → Option Ratio → Ratio → Result Tally ValueFault
fold_in o n None q = counted n (Ok q)
fold_in o n (Some p) q = counted n (combine o n p q)

-- the closing bracket after n arguments
abbrev pub at_close : Operator → ℕ → Option Ratio → Result Ratio ValueFault
at_close o n None = Err Unreadable
at_close Sum n (Some p) = Ok p
at_close Product n (Some p) = Ok p
at_close Difference n (Some p) = cond (n == 1) (Ok (negative p)) (cond (n == 2) (Ok p) (Err Unreadable))
at_close Quotient n (Some p) = cond (n == 2) (Ok p) (Err Unreadable)
at_close Other n (Some p) = Err Unreadable

-- the arguments and the closing bracket: `inner` reads an argument, and the number is enough turns
abbrev pub arguments : (List ℕ → Read) → Operator → ℕ → Tally → List ℕ → Read
arguments inner o f s [] = Err Unreadable
arguments inner o zero s (b ∷ bs) = Err Unreadable
arguments inner o (suc f) s (b ∷ bs) =
    cond (b == 32) (then (inner bs) (λ p. then (fold_in o s.number s.result p.0) (λ t. arguments inner o f t p.1)))
    (cond (b == 41) (then (at_close o s.number s.result) (λ q. Ok (q, bs))) (Err Unreadable))

abbrev pub bracket : (List ℕ → Read) → Option (List ℕ × List ℕ) → Read
bracket inner None = Err Unreadable
bracket inner (Some p) = arguments inner (operator_of p.0) (length p.1) none p.1

-- a value at the front, where d more brackets may be opened
abbrev pub value_at : ℕ → List ℕ → Read
value_at d [] = Err Unreadable
value_at zero (b ∷ bs) = cond (digit b) (literal_of (digits_after 0 (b ∷ bs))) (cond (b == 40) (Err TooDeep) (Err Unreadable))
value_at (suc d) (b ∷ bs) = cond (digit b) (literal_of (digits_after 0 (b ∷ bs))) (cond (b == 40) (bracket (value_at d) (cut_at_space bs)) (Err Unreadable))

-- how many brackets may be open at once
abbrev pub most_open : ℕ
most_open = 64

-- text after the whole value is ignored
abbrev pub arith_value : List ℕ → Result Ratio ValueFault
arith_value bs = then (value_at most_open bs) (λ p. Ok p.0)
