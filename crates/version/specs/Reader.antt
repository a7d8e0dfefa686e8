-- Reading a version: the version that a text is, if it is one within the limit. That this says just what `Denotes` says is
-- proved (`Law`). Assumes nothing.
use Rattle.std.specs.Prelude.{ℕ, ◌+◌, ◌-◌, ◌*◌, Bool, false, cond, not, ◌&&◌, ◌||◌, List, [], ◌∷◌, map, length, fold, Some, None, Option, ◌==◌, nat_lt}
use Rattle.std.specs.Borrow.{Bor}
use Rattle.std.specs.List.{slice_split}
use Rattle.std.specs.Option.{option_map}
use Rattle.version.specs.Grammar.{digit, every, wordy, tagged, limit, Identifier, numeric, alphanumeric, Semver}

-- one reading after another: nothing, where the first gives nothing
abbrev pub then : {A B : Type 0} → Option A → (A → Option B) → Option B
then None f = None
then (Some x) f = f x

-- one more byte in front of the first part
abbrev pub longer_front : ℕ → List ℕ × Option (List ℕ) → List ℕ × Option (List ℕ)
longer_front b p = (b ∷ p.0, p.1)

-- what stands before the first byte m, and what after it, if there is one
abbrev pub cut_at : ℕ → List ℕ → List ℕ × Option (List ℕ)
cut_at m [] = ([], None)
cut_at m (b ∷ bs) = cond (b == m) ([], Some bs) (longer_front b (cut_at m bs))

-- the fields between the dots
abbrev pub fields : List ℕ → List (List ℕ)
fields t = slice_split (λ b. b == 46) t

-- where there is no text there are no fields
abbrev pub fields_of : Option (List ℕ) → List (List ℕ)
fields_of None = []
fields_of (Some t) = fields t

-- the fields of a lent text, or none
abbrev pub fields_in : Option (Bor (List ℕ)) → List (List ℕ)
fields_in o = fields_of (option_map (λ x. x.now) o)

-- the number that digits write after the number n
abbrev pub value_on : ℕ → List ℕ → ℕ
value_on n ds = fold (λ v b. v * 10 + (b - 48)) n ds

-- digits, of which the first is `0` only if it is the only one
abbrev pub numeral : List ℕ → Bool
numeral [] = false
numeral (b ∷ bs) = every digit (b ∷ bs) && (not (b == 48) || length bs == 0)

-- a number below the limit
abbrev pub number_of : List ℕ → Option ℕ
number_of t = cond (numeral t && nat_lt (value_on 0 t) limit) (Some (value_on 0 t)) None

-- three numbers with dots between them
abbrev pub core_of : List ℕ → Option (ℕ × ℕ × ℕ)
core_of t =
    then (cut_at 46 t).1 (λ u.
    then (cut_at 46 u).1 (λ w.
    then (number_of (cut_at 46 t).0) (λ a. then (number_of (cut_at 46 u).0) (λ b. then (number_of w) (λ c. Some (a, b, c))))))

-- a field of a pre-release
abbrev pub released : List ℕ → Bool
released t = numeral t || wordy t

-- what such a field says: all digits are a number
abbrev pub identifier_of : List ℕ → Identifier
identifier_of t = cond (every digit t) (numeric (value_on 0 t)) (alphanumeric t)

-- a version from its parts: the three numbers, the text of the pre-release and that of the build metadata
abbrev pub assembled : Option (ℕ × ℕ × ℕ) → Option (List ℕ) → Option (List ℕ) → Option Semver
assembled core before after =
    then core (λ n.
    cond (every released (fields_of before) && every tagged (fields_of after))
    (Some (record { major = n.0; minor = n.1; patch = n.2; pre = map identifier_of (fields_of before); build = fields_of after }))
    None)

-- the build metadata stands after the first `+`, and the pre-release after the first `-` before that
unfoldable pub parsed : List ℕ → Option Semver
parsed text = assembled (core_of (cut_at 45 (cut_at 43 text).0).0) (cut_at 45 (cut_at 43 text).0).1 (cut_at 43 text).1
