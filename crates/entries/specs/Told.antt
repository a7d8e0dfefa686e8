-- What became of a list of entries. Assumes nothing.
use Rattle.std.specs.Prelude.{◌≡◌, ℕ, ◌<◌, Bool, true, false, List, length, Some, None, Option, slice_index_or}
use Rattle.keyed.specs.Meaning.{Names, Kept, kept, Finite}
use Rattle.idents.specs.declared.ident.Ident.{Ident}
use Rattle.idents.specs.Idents.{same_ident, proper_ident}
use Rattle.entries.specs.declared.entry.Entry.{Entry}

-- what stands past the end
abbrev pub blank : Entry
blank = record { id = record { namespace = None; order = 0 }; number = 0; taken = false }

abbrev pub at : List Entry → ℕ → Entry
at es k = slice_index_or es k blank

-- the entry was taken, and is one of the identifier i
pub record Took (e : Entry) (i : Ident) : Type 0 where
  pub taken : e.taken ≡ true
  pub under : e.id ≡ i

-- of the first j entries, n is the number of the last that was taken under i
pub record Last (es : List Entry) (j : ℕ) (i : Ident) (n : ℕ) : Type 0 where
  pub place : ℕ
  pub within : place < j
  pub took : Took (at es place) i
  pub number : (at es place).number ≡ n
  pub later : (k : ℕ) → place < k → k < j → Took (at es k) i → ⊥

-- what is answered for i after the first j entries: that number, or none where none was taken under i
abbrev pub Answer : List Entry → ℕ → Ident → Option ℕ → Type 0
Answer es j i None = (k : ℕ) → k < j → Took (at es k) i → ⊥
Answer es j i (Some n) = Last es j i n

-- whether the entry at k was taken: of what the entries before it left, and how much, its identifier has room
pub record Judged (roomy : ℕ → Kept Ident → Ident → Bool) (size : ℕ) (es : List Entry) (k : ℕ) : Type 0 where
  pub then : Names Ident ℕ
  pub finds : (i : Ident) → Answer es k i (then.find i)
  pub counts : Finite same_ident proper_ident (kept then)
  pub answer : (at es k).taken ≡ roomy size (kept then) (at es k).id

-- the entries as they were given are `before`, marked they are `after`, and the index then means `end`
pub record Told (roomy : ℕ → Kept Ident → Ident → Bool) (size : ℕ) (before after : List Entry) (end : Names Ident ℕ) : Type 0 where
  pub long : length after ≡ length before
  pub ids : (k : ℕ) → (at after k).id ≡ (at before k).id
  pub numbers : (k : ℕ) → (at after k).number ≡ (at before k).number
  pub judged : (k : ℕ) → k < length after → Judged roomy size after k
  pub finds : (i : Ident) → Answer after (length after) i (end.find i)
  pub counts : Finite same_ident proper_ident (kept end)

-- and r is what the index then answers for i
pub record Asked (roomy : ℕ → Kept Ident → Ident → Bool) (size : ℕ) (before after : List Entry) (i : Ident) (r : Option ℕ) : Type 0 where
  pub end : Names Ident ℕ
  pub told : Told roomy size before after end
  pub found : r ≡ end.find i
  pub answer : Answer after (length after) i r

-- what is told leaves nothing open: the marks, and what the index then finds, follow from the entries, the size and the room
abbrev pub ToldOnce : Type 0
ToldOnce =
    (roomy : ℕ → Kept Ident → Ident → Bool) (size : ℕ) (before es fs : List Entry) (end fin : Names Ident ℕ) → Told roomy size before es end → Told roomy size before fs fin
    → ((k : ℕ) → k < length before → at es k ≡ at fs k) × ((i : Ident) → end.find i ≡ fin.find i)
