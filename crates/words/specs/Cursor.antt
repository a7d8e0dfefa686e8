-- What one step of a cursor over the words of a line gives. Assumes nothing.
use Rattle.std.specs.Prelude.{◌≡◌, ℕ, ◌+◌, List, Option, is_some, if◌then◌else◌}
use Rattle.std.specs.Option.{option_map}
use Rattle.std.specs.Borrow.{Bor}
use Rattle.words.specs.declared.cursor.Words.{Words}
use Rattle.words.specs.Words.{ahead, first_of, rest_of}

-- from a cursor s, a result and the cursor after: the first of the words ahead, the others ahead of t, and one more word counted
pub record GivesWord (s : Words) (r : Option (Bor (List ℕ))) (t : Words) : Type 0 where
  pub word : option_map (λ x. x.now) r ≡ first_of (ahead s.left)
  pub rest : ahead t.left ≡ rest_of (ahead s.left)
  pub number : t.number ≡ s.number + (if is_some r then 1 else 0)
