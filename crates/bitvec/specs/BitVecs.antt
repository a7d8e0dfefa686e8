-- Bit-vector values: `#x` or `#b` and one or more digits of SMT-LIB 2.6: hexadecimal digits of both cases, or the digits 0 and 1; no sign
-- and no underscore. The whole value counts. Its width is 4 bits, or 1 bit, for each digit. A value of 2^64 or more is too large, and so
-- told only where all digits are good. Assumes nothing.
use Rattle.std.specs.Prelude.{ℕ, ◌+◌, ◌-◌, ◌*◌, Bool, cond, ◌&&◌, List, [], ◌∷◌, length, Some, None, Ok, Err, fold, Option, Result, ◌==◌, nat_le}
use Rattle.bitvec.specs.declared.Base.{Base}
use Rattle.bitvec.specs.declared.Base.TheVariants.{Binary, Hexadecimal}
use Rattle.bitvec.specs.declared.BitVec.{BitVec}
use Rattle.bitvec.specs.declared.BitVecFault.{BitVecFault}
use Rattle.bitvec.specs.declared.BitVecFault.TheVariants.{Unreadable, TooLarge}

abbrev pub between : ℕ → ℕ → ℕ → Bool
between low high b = nat_le low b && nat_le b high

-- the digits 0 to 9, a to f and A to F
abbrev pub hex_digit : ℕ → Option ℕ
hex_digit b = cond (between 48 57 b) (Some (b - 48)) (cond (between 97 102 b) (Some (b - 87)) (cond (between 65 70 b) (Some (b - 55)) None))

abbrev pub bit_digit : ℕ → Option ℕ
bit_digit b = cond (between 48 49 b) (Some (b - 48)) None

abbrev pub digit_in : Base → ℕ → Option ℕ
digit_in Binary b = bit_digit b
digit_in Hexadecimal b = hex_digit b

-- how many values a digit has, and how many bits
abbrev pub radix : Base → ℕ
radix Binary = 2
radix Hexadecimal = 16

abbrev pub bits_of : Base → ℕ
bits_of Binary = 1
bits_of Hexadecimal = 4

-- the number that digits write behind a number v; none where a byte is no digit
abbrev pub step_in : Base → Option ℕ → Option ℕ → Option ℕ
step_in t None d = None
step_in t (Some v) None = None
step_in t (Some v) (Some d) = Some (v * radix t + d)

abbrev pub number_from : Base → Option ℕ → List ℕ → Option ℕ
number_from t v ds = fold (λ a b. step_in t a (digit_in t b)) v ds

abbrev pub sized : ℕ → ℕ → Result BitVec BitVecFault
sized v n = cond (nat_le v 18446744073709551615) (Ok (record { value = v; bits = n })) (Err TooLarge)

abbrev pub numbered : ℕ → Option ℕ → Result BitVec BitVecFault
numbered n None = Err Unreadable
numbered n (Some v) = sized v n

-- one or more digits
abbrev pub of_digits : Base → List ℕ → Result BitVec BitVecFault
of_digits t [] = Err Unreadable
of_digits t (d ∷ ds) = numbered (length (d ∷ ds) * bits_of t) (number_from t (Some 0) (d ∷ ds))

-- behind the `#`: the letter that tells the base, and the digits
abbrev pub of_base : List ℕ → Result BitVec BitVecFault
of_base [] = Err Unreadable
of_base (b ∷ ds) = cond (b == 120) (of_digits Hexadecimal ds) (cond (b == 98) (of_digits Binary ds) (Err Unreadable))

-- the whole value
abbrev pub bit_vec : List ℕ → Result BitVec BitVecFault
bit_vec [] = Err Unreadable
bit_vec (b ∷ bs) = cond (b == 35) (of_base bs) (Err Unreadable)

-- the number that a refusal tells
abbrev pub vec_fault_number : BitVecFault → ℕ
vec_fault_number Unreadable = 10
vec_fault_number TooLarge = 12
