-- What a constant means, by the theory and the value on its line, and when two meanings are the same. Assumes nothing.
use Rattle.std.specs.Prelude.{ℕ, cond, List, [], ◌∷◌, Some, None, Ok, Option, Result, codes}
use Rattle.std.specs.Result.{result_map_both}
use Rattle.std.specs.Str.{bytes_eq}
use Rattle.fraction.specs.Ratios.{Ratio}
use Rattle.fraction.specs.Fractions.{ratio}
use Rattle.words.specs.Joined.{spaces, unwords}
use Rattle.arith.specs.Values.{arith_value}
use Rattle.arith.specs.Faults.{value_fault_number}
use Rattle.bitvec.specs.BitVecs.{bit_vec, vec_fault_number}
use Rattle.bitvec.specs.declared.BitVec.{BitVec as Vector}
use Rattle.meanings.specs.declared.Meaning.{Meaning}
use Rattle.meanings.specs.declared.Meaning.TheVariants.{Arith, BitVec, Unknown}
use Rattle.meanings.specs.declared.MeaningFault.{MeaningFault}
use Rattle.meanings.specs.declared.MeaningFault.TheVariants.{Arith as ArithFault, BitVec as BitVecFault}

-- a number, a bit-vector with its width, or theory and value as texts
pub data Said : Type 0 where
  number : Ratio → Said
  vector : Vector → Said
  texts : List ℕ → List ℕ → Said

-- what the code's meaning says
abbrev pub said : Meaning → Said
said (Arith f) = number (ratio f)
said (BitVec v) = vector v
said (Unknown t v) = texts t.now (spaces v.now)

-- a value of `arith` is read as a number and one of `bv` as a bit-vector; every other theory keeps both texts
abbrev pub meaning_of : List ℕ → List ℕ → Result Said MeaningFault
meaning_of theory value =
    cond (bytes_eq theory (codes "arith")) (result_map_both number ArithFault (arith_value value))
    (cond (bytes_eq theory (codes "bv")) (result_map_both vector BitVecFault (bit_vec value)) (Ok (texts theory value)))

-- the number that a refusal goes by
abbrev pub fault_number : MeaningFault → ℕ
fault_number (ArithFault f) = value_fault_number f
fault_number (BitVecFault f) = vec_fault_number f

-- what the words from the theory on say: the value is the words behind the theory joined by single spaces, the empty text if there is
-- none; nothing is said where there is no theory
abbrev pub words_say : List (List ℕ) → Option (Result Said MeaningFault)
words_say [] = None
words_say (theory ∷ value) = Some (meaning_of theory (unwords value))
