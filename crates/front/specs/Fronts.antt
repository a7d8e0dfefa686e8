-- An index in front of another: it keeps the low orders without a namespace itself. Assumes nothing.
use Rattle.std.specs.Prelude.{◌≡◌, ℕ, zero, suc, ◌+◌, ◌-◌, Bool, true, false, cond, ◌&&◌, ◌||◌, List, [], ◌∷◌, length, is_none, is_some, None, Option, nat_lt, slice_index_or}
use Rattle.keyed.specs.Meaning.{Names, Kept}
use Rattle.idents.specs.declared.ident.Ident.{Ident}

-- the identifier of an order without a namespace
abbrev pub low : ℕ → Ident
low o = record { namespace = None; order = o }

-- those of the orders below n that pass the test
unfoldable pub low_keys : (ℕ → Bool) → ℕ → List Ident
low_keys h zero = []
low_keys h (suc n) = cond (h n) (low n ∷ low_keys h n) (low_keys h n)

-- which identifiers the front keeps itself
abbrev pub frontal : Ident → Bool
frontal i = is_none i.namespace && nat_lt i.order 4096

-- which orders have a number in the front's own places
abbrev pub filled : List (Option ℕ) → ℕ → Bool
filled orders o = is_some (slice_index_or orders o None)

-- both together: a low order without a namespace is the front's, any other identifier that of the index below
abbrev pub front_names : List (Option ℕ) → Names Ident ℕ → Names Ident ℕ
front_names orders m = record {
  find = λ i. cond (frontal i) (slice_index_or orders i.order None) (m.find i);
  count = length (low_keys (filled orders) 4096) + m.count;
}

-- of what is held, that which lies below
abbrev pub kept_below : Kept Ident → Kept Ident
kept_below m = record {
  has = λ i. cond (frontal i) false (m.has i);
  count = m.count - length (low_keys (λ o. m.has (low o)) 4096);
}

-- what the front keeps itself always has room, the others where they have it below
abbrev pub front_room : (ℕ → Kept Ident → Ident → Bool) → ℕ → Kept Ident → Ident → Bool
front_room roomy size m i = frontal i || roomy size (kept_below m) i

-- what lies below holds nothing of the front's
abbrev pub Clear : Names Ident ℕ → Type 0
Clear m = (i : Ident) → frontal i ≡ true → m.find i ≡ None
