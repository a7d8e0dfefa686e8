-- The name of an application. Its first word is always part of it, even if it reads as an identifier and even if it is empty. Words
-- after it, up to the first that reads as an identifier, belong to it too; if any do, it is `|`, the words joined by single spaces,
-- then `|`. Assumes nothing.
use Rattle.std.specs.Prelude.{◌≡◌, ℕ, Bool, true, cond, List, [], ◌∷◌, ◌++◌, length, take, Some, None, Option, nat_le}
use Rattle.ids.specs.Ids.{is_id}
use Rattle.words.specs.Joined.{unwords}
use Rattle.words.specs.Laid.{laid}
use Rattle.names.specs.declared.app.AppName.{AppName}

-- the words up to the first that reads as an identifier
abbrev pub named : List (List ℕ) → List (List ℕ)
named [] = []
named (w ∷ ws) = cond (is_id w) [] (w ∷ named ws)

-- the words from the first on that reads as an identifier
abbrev pub children : List (List ℕ) → List (List ℕ)
children [] = []
children (w ∷ ws) = cond (is_id w) (w ∷ ws) (children ws)

-- a bar at both ends
abbrev pub barred : List ℕ → List ℕ
barred t = 124 ∷ (t ++ 124 ∷ [])

-- w is the first word of the name, ws the others
abbrev pub joined_name : List ℕ → List (List ℕ) → Option (List ℕ)
joined_name w [] = None
joined_name w (v ∷ vs) = Some (barred (unwords (w ∷ v ∷ vs)))

abbrev pub or_else : List ℕ → Option (List ℕ) → List ℕ
or_else t None = t
or_else t (Some u) = u

-- the name that begins with the first of the words left
abbrev pub app_name : List (List ℕ) → Option (List ℕ)
app_name [] = None
app_name (w ∷ ws) = Some (or_else w (joined_name w (named ws)))

-- the words of the line behind the name: the children's
abbrev pub child_words : List (List ℕ) → List (List ℕ)
child_words [] = []
child_words (w ∷ ws) = children ws

-- ---- the name in two steps: it is a part of the line where nothing was joined, else of scratch memory

-- what the first step tells: the first word, and how long the name is where words were joined
pub record NameRead : Type 0 where
  pub first : List ℕ
  pub joined : Option ℕ

abbrev pub name_long : Option (List ℕ) → Option ℕ
name_long None = None
name_long (Some t) = Some (length t)

abbrev pub name_read : List (List ℕ) → Option NameRead
name_read [] = None
name_read (w ∷ ws) = Some (record { first = w; joined = name_long (joined_name w (named ws)) })

-- scratch memory after the first step: the joined name is laid over it
abbrev pub scratch_after : List (List ℕ) → List ℕ → List ℕ
scratch_after [] m = m
scratch_after (w ∷ ws) m = laid (or_else [] (joined_name w (named ws))) m

-- the name that the second step finds: none where the joined name is longer than scratch memory
abbrev pub placed_in : List ℕ → Option ℕ → List ℕ → Option (List ℕ)
placed_in w None m = Some w
placed_in w (Some k) m = cond (nat_le k (length m)) (Some (take k m)) None

abbrev pub name_in : NameRead → List ℕ → Option (List ℕ)
name_in n m = placed_in n.first n.joined m

abbrev pub fitting : Option ℕ → List ℕ → Bool
fitting None m = true
fitting (Some k) m = nat_le k (length m)

-- the joined name fits into a memory, or nothing is joined
abbrev pub fits_in : NameRead → List ℕ → Bool
fits_in n m = fitting n.joined m

-- the two steps together find the name, exactly when it fits into scratch memory m
abbrev pub Found : Option (List ℕ) → Option NameRead → List ℕ → List ℕ → Type 0
Found t None m after = t ≡ None
Found t (Some n) m after = name_in n after ≡ cond (fits_in n m) t None

abbrev pub NameFound : List (List ℕ) → List ℕ → Type 0
NameFound ws m = Found (app_name ws) (name_read ws) m (scratch_after ws m)

abbrev pub name_said : AppName → NameRead
name_said n = record { first = n.first.now; joined = n.joined }
