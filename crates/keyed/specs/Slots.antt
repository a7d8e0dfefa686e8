-- What a row of slots means, and what a probe relies on. Assumes nothing.
use Rattle.std.specs.Prelude.{◌≡◌, ℕ, ◌+◌, ◌-◌, ◌%◌, ◌<◌, Bool, true, false, cond, ◌||◌, ◌⊎◌, List, [], ◌∷◌, length, Some, None, Option, ◌≢◌, nat_le, nat_lt, slice_index_or, take, drop}
use mathlib.Core.Bool.{Bool-set}
use Rattle.keyed.specs.Meaning.{Names, Kept, kept}

-- a table uses the first 16,777,216 of the slots lent to it, all if there are fewer
abbrev pub used : {A : Type 0} → List A → List A
used xs = take 16777216 xs

-- and none of those that come after them
abbrev pub unused : {A : Type 0} → List A → List A
unused xs = drop 16777216 xs

-- a slot holds a key like k
abbrev pub holds_key : {K V : Type 0} → (K → K → Bool) → K → Option (K × V) → Bool
holds_key alike k None = false
holds_key alike k (Some e) = alike k e.0

abbrev pub is_free : {K V : Type 0} → Option (K × V) → Bool
is_free None = true
is_free (Some e) = false

abbrev pub value_in : {K V : Type 0} → Option (K × V) → Option V
value_in None = None
value_in (Some e) = Some e.1

-- the value that a key has: that of the slot with a key like it
abbrev pub value_at : {K V : Type 0} → (K → K → Bool) → List (Option (K × V)) → K → Option V
value_at alike [] k = None
value_at alike (None ∷ xs) k = value_at alike xs k
value_at alike (Some e ∷ xs) k = cond (alike k e.0) (Some e.1) (value_at alike xs k)

-- the keys in the slots
abbrev pub keys_in : {K V : Type 0} → List (Option (K × V)) → List K
keys_in [] = []
keys_in (None ∷ xs) = keys_in xs
keys_in (Some e ∷ xs) = e.0 ∷ keys_in xs

-- what a row of slots means: the count is that of the slots that are not free
abbrev pub table_names : {K V : Type 0} → (K → K → Bool) → List (Option (K × V)) → Names K V
table_names alike xs = record { find = value_at alike xs; count = length (keys_in xs) }

-- among so many slots a key has room that is held already, and each while fewer are held than there are slots
abbrev pub table_room : {K : Type 0} → ℕ → Kept K → K → Bool
table_room size m k = m.has k || nat_lt m.count size

-- whether k has room in the row
abbrev pub room_in : {K V : Type 0} → (K → K → Bool) → List (Option (K × V)) → K → Bool
room_in alike xs k = table_room (length xs) (kept (table_names alike xs)) k

-- of n slots in a ring, how many steps from the slot h to the slot j
abbrev pub gap : ℕ → ℕ → ℕ → ℕ
gap n h j = cond (nat_le h j) (j - h) ((n - h) + j)

-- where a probe for a key begins among n slots
abbrev pub start : {K : Type 0} → (K → ℕ) → ℕ → K → ℕ
start code n k = code k % n

-- a probe for k passes the slot x
pub record Passed {K V : Type 0} (alike : K → K → Bool) (k : K) (x : Option (K × V)) : Type 0 where
  pub taken_up : is_free x ≡ false
  pub other : holds_key alike k x ≡ false

-- the probe for k ends at the slot i: the first on its way that is free or has a key like k
pub record Ends {K V : Type 0} (alike : K → K → Bool) (code : K → ℕ) (xs : List (Option (K × V))) (k : K) (i : ℕ) : Type 0 where
  pub within : i < length xs
  pub stops : (is_free (slice_index_or xs i None) ≡ true) ⊎ (holds_key alike k (slice_index_or xs i None) ≡ true)
  pub before : (j : ℕ) → j < length xs → gap (length xs) (start code (length xs) k) j < gap (length xs) (start code (length xs) k) i → Passed alike k (slice_index_or xs j None)

-- it passes every slot
pub record Through {K V : Type 0} (alike : K → K → Bool) (xs : List (Option (K × V))) (k : K) : Type 0 where
  pub all : (j : ℕ) → j < length xs → Passed alike k (slice_index_or xs j None)

-- where the probe for k ends, if anywhere
abbrev pub Probed : {K V : Type 0} → (K → K → Bool) → (K → ℕ) → List (Option (K × V)) → K → Option ℕ → Type 0
Probed alike code xs k None = Through alike xs k
Probed alike code xs k (Some i) = Ends alike code xs k i

-- from a free slot on, a probe has nothing more to find
abbrev pub Reached : {K V : Type 0} → (K → K → Bool) → (K → ℕ) → ℕ → List (Option (K × V)) → Type 0
Reached {K = K} alike code n xs =
    (k : K) (i j : ℕ) → i < n → j < n → is_free (slice_index_or xs i None) ≡ true → gap n (start code n k) i < gap n (start code n k) j → holds_key alike k (slice_index_or xs j None) ≡ false

-- no two slots have keys that are alike
abbrev pub Apart : {K V : Type 0} → (K → K → Bool) → ℕ → List (Option (K × V)) → Type 0
Apart {K = K} alike n xs = (k : K) (i j : ℕ) → i < n → j < n → (i ≢ j) → holds_key alike k (slice_index_or xs i None) ≡ true → holds_key alike k (slice_index_or xs j None) ≡ false

-- what probes rely on, and every change keeps
pub record Probing {K V : Type 0} (alike : K → K → Bool) (code : K → ℕ) (xs : List (Option (K × V))) : Type 0 where
  pub reached : Reached alike code (length xs) xs
  pub apart : Apart alike (length xs) xs

-- there is at most one proof of `Probing`, as an invariant of a type needs
pub Probing-prop : {K V : Type 0} (alike : K → K → Bool) (code : K → ℕ) (xs : List (Option (K × V))) → IsProp (Probing alike code xs)
Probing-prop alike code xs p q = λ z. record {
  reached = λ k i j li lj free less. Bool-set _ _ (p.reached k i j li lj free less) (q.reached k i j li lj free less) z;
  apart = λ k i j li lj ne has. Bool-set _ _ (p.apart k i j li lj ne has) (q.apart k i j li lj ne has) z;
}
