-- The name of a quantifier and its variable count. Traces of a version of 4.9.0 or later (new) write a name with spaces between bars;
-- older ones write it as it is. Assumes nothing.
use Rattle.std.specs.Prelude.{ℕ, suc, ◌+◌, Bool, true, false, cond, not, ◌&&◌, List, [], ◌∷◌, take, drop, is_ok, Some, None, Ok, Err, Option, Result, codes, position, nat_eq, nat_lt}
use Rattle.std.specs.List.{starts_with, ends_with}
use Rattle.std.specs.Option.{option_map}
use Rattle.ids.specs.declared.number.NumberFault.{NumberFault}
use Rattle.ids.specs.Numbers.{small}
use Rattle.words.specs.Words.{first_of}
use Rattle.words.specs.Joined.{unwords, joined_text}
use Rattle.names.specs.AppNames.{barred}
use Rattle.names.specs.declared.quant.Qid.{Qid}
use Rattle.names.specs.declared.quant.QidFault.{QidFault}
use Rattle.names.specs.declared.quant.QidFault.TheVariants.{Missing, Count}

-- a word begins with a bar, and ends with one; a single bar does both
abbrev pub opens : List ℕ → Bool
opens w = starts_with nat_eq w (codes "|")

abbrev pub closes : List ℕ → Bool
closes w = ends_with nat_eq w (codes "|")

-- how many words there are up to and including the first that ends with a bar
abbrev pub up_to_bar : List (List ℕ) → Option ℕ
up_to_bar ws = option_map suc (position closes ws)

-- how many words stand before the first that is a small number
abbrev pub up_to_number : List (List ℕ) → Option ℕ
up_to_number ws = position (λ w. is_ok (small w)) ws

-- how many words the name has. New: one, or where it begins but does not end with a bar, those up to the next that ends with one.
-- Old: all before the first small number behind the first word
abbrev pub name_words : Bool → List (List ℕ) → Option ℕ
name_words new [] = None
name_words true (w ∷ ws) = cond (opens w && not (closes w)) (option_map suc (up_to_bar ws)) (Some 1)
name_words false (w ∷ ws) = option_map suc (up_to_number ws)

-- an old name of several words gets a bar at both ends
abbrev pub quant_text : Bool → ℕ → List (List ℕ) → List ℕ
quant_text new k ws = cond (not new && nat_lt 1 k) (barred (unwords (take k ws))) (unwords (take k ws))

-- a name and its variable count
pub record QuantRead : Type 0 where
  pub name : List ℕ
  pub count : ℕ

-- the word behind the name is the count; `place` is its number on the line
abbrev pub counted : List ℕ → ℕ → Result ℕ NumberFault → Result QuantRead QidFault
counted t place (Ok n) = Ok (record { name = t; count = n })
counted t place (Err f) = Err (Count place f)

abbrev pub count_word : List ℕ → ℕ → Option (List ℕ) → Result QuantRead QidFault
count_word t place None = Err Missing
count_word t place (Some w) = counted t place (small w)

abbrev pub of_words : Bool → ℕ → List (List ℕ) → Option ℕ → Result QuantRead QidFault
of_words new from ws None = Err Missing
of_words new from ws (Some k) = count_word (quant_text new k ws) (from + k) (first_of (drop k ws))

-- the name and count that the words ws begin with, the first of which has the number `from` on the line
abbrev pub quant_read : Bool → ℕ → List (List ℕ) → Result QuantRead QidFault
quant_read new from ws = of_words new from ws (name_words new ws)

-- the words behind the count: the children's
abbrev pub behind : Option ℕ → List (List ℕ) → List (List ℕ)
behind None ws = ws
behind (Some k) ws = drop (k + 1) ws

-- what is left of the line: a fault leaves all
abbrev pub left_after : Bool → Result QuantRead QidFault → List (List ℕ) → List (List ℕ)
left_after new r ws = cond (is_ok r) (behind (name_words new ws) ws) ws

abbrev pub qid_said : Qid → QuantRead
qid_said q = record { name = joined_text q.name.bars q.name.span.now; count = q.num_vars }

abbrev pub qid_answer : Result Qid QidFault → Result QuantRead QidFault
qid_answer (Ok q) = Ok (qid_said q)
qid_answer (Err f) = Err f
