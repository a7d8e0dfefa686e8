-- Worked examples of values. Assumes nothing.
use Rattle.std.specs.Prelude.{◌≡◌, ℕ, zero, suc, List, [], ◌∷◌, ◌++◌, ℤ, pos, negsuc, Ok, Err, codes, Result}
use Rattle.fraction.specs.Ratios.{Ratio}
use Rattle.arith.specs.declared.ValueFault.{ValueFault}
use Rattle.arith.specs.declared.ValueFault.TheVariants.{Unreadable, ZeroDivisor, TooLarge, TooDeep}
use Rattle.words.specs.Joined.{spaces}
use Rattle.arith.specs.Values.{arith_value}

abbrev reads : List ℕ → Result Ratio ValueFault
reads bs = arith_value (spaces bs)

abbrev is : ℤ → ℕ → Result Ratio ValueFault
is z d = Ok (record { numer = z; denom = d })

-- a text n times, and then another
abbrev times : ℕ → List ℕ → List ℕ → List ℕ
times zero w e = e
times (suc n) w e = w ++ times n w e

abbrev pub Examples : Type 0
Examples =
    (reads (codes "(/ 6 (- 4))") ≡ is (negsuc 2) 2)
    × (reads (codes "007 and more") ≡ is (pos 7) 1)
    × (reads (codes "(+ 1 2 3)") ≡ is (pos 6) 1)
    × (reads (codes "(+" ++ (9 ∷ codes "1") ++ (10 ∷ codes "2)")) ≡ is (pos 3) 1)
    × (reads (codes "(- 2 3)") ≡ is (negsuc 0) 1)
    × (reads (codes "(* 2147483647 2)") ≡ Err TooLarge)
    × (reads (codes "(/ 1 0 5)") ≡ Err ZeroDivisor)
    × (reads (codes "(/ 1 2 0)") ≡ Err Unreadable)
    × (reads (codes "(/ 1)") ≡ Err Unreadable)
    × (reads (codes "(- 1 2 3)") ≡ Err Unreadable)
    × (reads (codes "(- 1 2 (/ 3 0))") ≡ Err ZeroDivisor)
    × (reads (codes "( 1)") ≡ Err Unreadable)
    × (reads (codes "(pi)") ≡ Err Unreadable)
    × (reads (codes "(+ 1 x)") ≡ Err Unreadable)
    × (reads [] ≡ Err Unreadable)
    × (reads (codes "2147483648") ≡ Err TooLarge)
    × (reads (codes "(+ (/ 1 2147483647) (/ 1 2147483646))") ≡ Err TooLarge)
    × (reads (times 64 (codes "(- ") (49 ∷ times 64 (codes ")") [])) ≡ is (pos 1) 1)
    × (reads (times 65 (codes "(- ") (49 ∷ times 65 (codes ")") [])) ≡ Err TooDeep)
    × (reads (times 65 (codes "(- ") []) ≡ Err TooDeep)
