-- What an index means: at most one value for each key, and how many keys have one. Assumes nothing.
use Rattle.std.specs.Prelude.{◌≡◌, ℕ, ◌+◌, ◌<◌, Bool, true, false, cond, ◌||◌, List, [], ◌∷◌, length, is_some, Some, None, Ok, Err, Option, Result}

-- the value found for each key, and how many keys have one
pub record Names (K V : Type 0) : Type 0 where
  pub find : K → Option V
  pub count : ℕ

-- which keys are held and how many, and nothing of their values
pub record Kept (K : Type 0) : Type 0 where
  pub has : K → Bool
  pub count : ℕ

abbrev pub kept : {K V : Type 0} → Names K V → Kept K
kept m = record { has = λ k. is_some (m.find k); count = m.count }

abbrev pub nothing : {K V : Type 0} → Names K V
nothing = record { find = λ _. None; count = 0 }

-- that key alone gets the value
abbrev pub put : {K V : Type 0} → (K → K → Bool) → Names K V → K → V → Names K V
put alike m k v = record { find = λ q. cond (alike q k) (Some v) (m.find q); count = m.count + cond (is_some (m.find k)) 0 1 }

-- what entering comes to: with room, that key alone gets the value, and the displaced one is answered;
-- without, the refusal is answered and nothing changes
pub record Entered {K V E : Type 0} (alike : K → K → Bool) (room : Bool) (k : K) (v : V) (refusal : E) (before after : Names K V) (r : Result (Option V) E) : Type 0 where
  pub answers : r ≡ cond room (Ok (before.find k)) (Err refusal)
  pub leaves : after ≡ cond room (put alike before k v) before

abbrev pub listed : {K : Type 0} → (K → K → Bool) → K → List K → Bool
listed alike k [] = false
listed alike k (x ∷ xs) = alike k x || listed alike k xs

abbrev pub NoRepeats : {K : Type 0} → (K → K → Bool) → List K → Type 0
NoRepeats alike [] = Unit {0}
NoRepeats alike (x ∷ xs) = (listed alike x xs ≡ false) × NoRepeats alike xs

-- the count is that of the keys held: some list without repeats has exactly those, and is as long; and only proper keys are held
pub record Finite {K : Type 0} (alike : K → K → Bool) (proper : K → Bool) (m : Kept K) : Type 0 where
  pub keys : List K
  pub apart : NoRepeats alike keys
  pub many : length keys ≡ m.count
  pub exact : (k : K) → m.has k ≡ listed alike k keys
  pub fit : (k : K) → proper k ≡ false → m.has k ≡ false

-- where every key is proper
abbrev pub every_key : {K : Type 0} → K → Bool
every_key k = true

-- what every make of an index shows
pub record IndexLaws {Self K V : Type 0} (alike : K → K → Bool) (proper : K → Bool) (means : Self → Names K V) (capacity : ℕ → ℕ) (roomy : ℕ → Kept K → K → Bool) (sound : Self → Type 0) : Type 0 where
  -- each value that is sound holds proper keys alone, as many as it counts
  pub counted : (s : Self) → sound s → Finite alike proper (kept (means s))
  -- a key that is held has room
  pub held_has_room : (size : ℕ) (m : Kept K) (k : K) → Finite alike proper m → m.has k ≡ true → roomy size m k ≡ true
  -- while fewer are held than the capacity, every proper key has room
  pub spare_has_room : (size : ℕ) (m : Kept K) (k : K) → Finite alike proper m → proper k ≡ true → m.count < capacity size → roomy size m k ≡ true
  -- any other key is not held (`counted`), and has no room
  pub improper_no_room : (size : ℕ) (m : Kept K) (k : K) → Finite alike proper m → proper k ≡ false → roomy size m k ≡ false
