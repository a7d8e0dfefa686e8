-- A number is at most one plus sign and then one or more decimal digits, with a value up to a limit; any count of leading zeros is
-- allowed. What is wrong is told in this order: no digits, a byte that is no digit, a value over the limit. Assumes nothing.
use Rattle.std.specs.Prelude.{ℕ, ◌+◌, ◌-◌, ◌*◌, Bool, cond, ◌&&◌, List, [], ◌∷◌, length, Ok, Err, fold, Result, ◌==◌, nat_le, nat_lt}
use Rattle.std.specs.List.{prefix_len}
use Rattle.ids.specs.declared.number.NumberFault.{NumberFault}
use Rattle.ids.specs.declared.number.NumberFault.TheVariants.{Empty, NotDigit, TooLarge}

abbrev pub digit : ℕ → Bool
digit b = nat_le 48 b && nat_le b 57

-- the number that digits write in base ten, after a number n that stands before them
abbrev pub worth_from : ℕ → List ℕ → ℕ
worth_from n ds = fold (λ v b. v * 10 + (b - 48)) n ds

abbrev pub worth : List ℕ → ℕ
worth ds = worth_from 0 ds

-- 1 where a plus sign stands first, else 0
abbrev pub sign : List ℕ → ℕ
sign [] = 0
sign (b ∷ bs) = cond (b == 43) 1 0

-- what stands after the plus sign, if there is one
abbrev pub unsigned : List ℕ → List ℕ
unsigned [] = []
unsigned (b ∷ bs) = cond (b == 43) bs (b ∷ bs)

-- digits ds within the limit; places are counted from `from`
abbrev pub numeral : ℕ → ℕ → List ℕ → Result ℕ NumberFault
numeral limit from ds =
    cond (length ds == 0) (Err Empty)
    (cond (nat_lt (prefix_len digit ds) (length ds)) (Err (NotDigit (from + prefix_len digit ds)))
    (cond (nat_le (worth ds) limit) (Ok (worth ds)) (Err TooLarge)))

-- a number up to the limit
abbrev pub number_up_to : ℕ → List ℕ → Result ℕ NumberFault
number_up_to limit w = numeral limit (sign w) (unsigned w)

-- a small number is one up to 4,294,967,294
abbrev pub small : List ℕ → Result ℕ NumberFault
small w = number_up_to 4294967294 w
