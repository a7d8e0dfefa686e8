-- What a call writes into lent memory that may be too short. Assumes nothing.
use Rattle.std.specs.Prelude.{List, [], ◌∷◌}

-- records written over the front of a memory, as far as it goes
abbrev pub laid : {A : Type 0} → List A → List A → List A
laid [] m = m
laid (x ∷ xs) [] = []
laid (x ∷ xs) (y ∷ m) = x ∷ laid xs m
