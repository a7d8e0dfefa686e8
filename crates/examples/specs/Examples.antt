-- Worked examples of the readers, computed over their definitions. Assumes nothing.
use Rattle.std.specs.Prelude.{◌≡◌, ℕ, true, false, List, [], ◌∷◌, Some, None, Ok, Err, codes, negsuc}
use Rattle.ids.specs.declared.number.NumberFault.TheVariants.{Empty, NotDigit, TooLarge}
use Rattle.ids.specs.declared.id.IdFault.TheVariants.{NoHash, Number}
use Rattle.ids.specs.Numbers.{small}
use Rattle.ids.specs.Ids.{ident, order_of}
use Rattle.words.specs.declared.kind.LineKind.TheVariants.{MkApp}
use Rattle.words.specs.Words.{words_of, rest_of}
use Rattle.words.specs.Kinds.{kind_of}
use Rattle.names.specs.declared.quant.QidFault.TheVariants.{Missing, Count}
use Rattle.names.specs.AppNames.{app_name, child_words}
use Rattle.names.specs.QuantNames.{quant_read}
use Rattle.names.specs.QuantKinds.{by_name, by_number, quant_kind}
use Rattle.words.specs.Joined.{spaces}
use Rattle.arith.specs.Values.{arith_value}
use Rattle.bitvec.specs.BitVecs.{bit_vec}

-- the words of a line from word 2 on
abbrev pub from_word2 : List ℕ → List (List ℕ)
from_word2 l = rest_of (rest_of (words_of l))

pub record ReaderExamples : Type 0 where
  pub largest : ident (codes "#4294967294") ≡ Ok (record { namespace = None; number = Some 4294967294 })
  pub largest_order : order_of (Some 4294967294) ≡ 4294967295
  pub over : ident (codes "#4294967295") ≡ Err (Number TooLarge)
  pub no_number : ident (codes "get-model-0#") ≡ Ok (record { namespace = Some (codes "get-model-0"); number = None })
  pub no_hash : ident (codes "foo") ≡ Err NoHash
  pub first_hash : ident (codes "a#b#1") ≡ Err (Number (NotDigit 0))
  pub plus : small (codes "+007") ≡ Ok 7
  pub plus_alone : small (codes "+") ≡ Err Empty
  pub second_plus : small (codes "++7") ≡ Err (NotDigit 1)
  pub empty_line : words_of [] ≡ [] ∷ []
  pub empty_word : words_of (codes "a  b") ≡ codes "a" ∷ [] ∷ codes "b" ∷ []
  pub kind : kind_of (codes "[mk-app]") ≡ Some MkApp
  pub no_kind : kind_of (codes "[mk-app") ≡ None
  pub end_space : app_name (from_word2 (codes "[mk-app] #5 foo ")) ≡ Some (codes "|foo |")
  pub one_word : app_name (from_word2 (codes "[mk-app] #5 foo #1 #2")) ≡ Some (codes "foo")
  pub the_child_words : child_words (from_word2 (codes "[mk-app] #5 foo bar #1 #2")) ≡ codes "#1" ∷ codes "#2" ∷ []
  pub old_name : quant_read false 2 (from_word2 (codes "[mk-quant] #9 a b 1")) ≡ Ok (record { name = codes "|a b|"; count = 1 })
  pub new_name : quant_read true 2 (from_word2 (codes "[mk-quant] #9 a b 1")) ≡ Err (Count 3 (NotDigit 0))
  pub new_bars : quant_read true 2 (from_word2 (codes "[mk-quant] #9 |a b| 1 #8")) ≡ Ok (record { name = codes "|a b|"; count = 1 })
  pub no_count : quant_read false 2 (from_word2 (codes "[mk-quant] #9 a b")) ≡ Err Missing
  pub numbered : quant_kind (codes "k!12") ≡ by_number (codes "k") 12
  pub named : quant_kind (codes "k!x") ≡ by_name (codes "k!x")
  pub minus_three_halves : arith_value (spaces (codes "(/ 6 (- 4))")) ≡ Ok (record { numer = negsuc 2; denom = 2 })
  pub fifteen_in_eight_bits : bit_vec (spaces (codes "#x0F")) ≡ Ok (record { value = 15; bits = 8 })
