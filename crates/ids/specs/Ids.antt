-- An identifier is split at its first `#`. What stands before is the namespace, absent if empty; after it comes nothing
-- or a small number. Its order is 0 without a number and n + 1 with number n. Assumes nothing.
use Rattle.std.specs.Prelude.{ℕ, ◌+◌, Bool, cond, List, [], ◌∷◌, is_ok, Some, None, Ok, Err, Option, Result, ◌==◌}
use Rattle.std.specs.Borrow.{Bor}
use Rattle.std.specs.Option.{option_map}
use Rattle.ids.specs.declared.number.NumberFault.{NumberFault}
use Rattle.ids.specs.Numbers.{small}
use Rattle.ids.specs.declared.id.IdFault.{IdFault}
use Rattle.ids.specs.declared.id.IdFault.TheVariants.{NoHash, Number}
use Rattle.ids.specs.declared.id.IdText.{IdText}

-- what an identifier says
pub record Id : Type 0 where
  pub namespace : Option (List ℕ)
  pub number : Option ℕ

-- the place of an identifier in its namespace
abbrev pub order_of : Option ℕ → ℕ
order_of None = 0
order_of (Some n) = n + 1

abbrev pub before : ℕ → Option (List ℕ × List ℕ) → Option (List ℕ × List ℕ)
before b None = None
before b (Some p) = Some (b ∷ p.0, p.1)

-- what stands before the first `#`, and what after it
abbrev pub cut_at_hash : List ℕ → Option (List ℕ × List ℕ)
cut_at_hash [] = None
cut_at_hash (b ∷ bs) = cond (b == 35) (Some ([], bs)) (before b (cut_at_hash bs))

abbrev pub absent_if_empty : List ℕ → Option (List ℕ)
absent_if_empty [] = None
absent_if_empty (b ∷ bs) = Some (b ∷ bs)

abbrev pub numbered : Option (List ℕ) → Result ℕ NumberFault → Result Id IdFault
numbered s (Ok n) = Ok (record { namespace = s; number = Some n })
numbered s (Err f) = Err (Number f)

-- s is the namespace, and the list what stands after the `#`
abbrev pub ended : Option (List ℕ) → List ℕ → Result Id IdFault
ended s [] = Ok (record { namespace = s; number = None })
ended s (b ∷ bs) = numbered s (small (b ∷ bs))

abbrev pub from_parts : Option (List ℕ × List ℕ) → Result Id IdFault
from_parts None = Err NoHash
from_parts (Some p) = ended (absent_if_empty p.0) p.1

-- the identifier that a word writes
abbrev pub ident : List ℕ → Result Id IdFault
ident w = from_parts (cut_at_hash w)

-- a word reads as an identifier; whether one is held under it plays no part
abbrev pub is_id : List ℕ → Bool
is_id w = is_ok (ident w)

-- the code's answers, whose texts are parts of the word
abbrev pub id_said : IdText → Id
id_said t = record { namespace = option_map (λ x. x.now) t.namespace; number = t.number }

abbrev pub id_answer : Result IdText IdFault → Result Id IdFault
id_answer (Ok t) = Ok (id_said t)
id_answer (Err f) = Err f

abbrev pub parts_said : Option (Bor (List ℕ) × Bor (List ℕ)) → Option (List ℕ × List ℕ)
parts_said None = None
parts_said (Some p) = Some (p.0.now, p.1.now)
