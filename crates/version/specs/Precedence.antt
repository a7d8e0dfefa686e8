-- Which of two versions is the later one: the precedence of Semantic Versioning 2.0.0, clause 11. Assumes nothing.
--
-- Major, minor and patch are compared as numbers, in this order; the first difference decides. Where they are equal, a version
-- with a pre-release comes before the one without. Two pre-releases are compared identifier by identifier from the left, and the
-- first difference decides: numbers by value, texts byte by byte in ASCII order, and a number comes before a text. Where one list
-- of identifiers is the front of the other, the longer one comes later. Build metadata is not looked at.
use Rattle.std.specs.Prelude.{ℕ, Bool, cond, List, [], ◌∷◌, ◌==◌, nat_lt}
use Rattle.std.specs.Cmp.Lexicographic.{slice_cmp}
use Rattle.std.specs.declared.cmp.Ordering.TheVariants.{Less, Equal, Greater}
use Rattle.std.specs.declared.cmp.Ordering.{Ordering}
use Rattle.std.specs.Ordering.{is_ge, ordering_then}
use Rattle.version.specs.Grammar.{Identifier, numeric, alphanumeric, Semver}

-- numbers by value
abbrev pub by_value : ℕ → ℕ → Ordering
by_value m n = cond (nat_lt m n) Less (cond (m == n) Equal Greater)

-- the first that differ decide; the front of a list comes before the list
abbrev pub by_first : {X : Type 0} → (X → X → Ordering) → List X → List X → Ordering
by_first by xs ys = slice_cmp by xs ys

-- texts byte by byte, in ASCII order
abbrev pub bytes_order : List ℕ → List ℕ → Ordering
bytes_order s t = by_first by_value s t

-- numbers by value, texts by bytes, and a number before a text
abbrev pub by_identifier : Identifier → Identifier → Ordering
by_identifier (numeric m) (numeric n) = by_value m n
by_identifier (numeric m) (alphanumeric u) = Less
by_identifier (alphanumeric t) (numeric n) = Greater
by_identifier (alphanumeric t) (alphanumeric u) = bytes_order t u

-- the identifiers of two pre-releases, from the left
abbrev pub by_identifiers : List Identifier → List Identifier → Ordering
by_identifiers xs ys = by_first by_identifier xs ys

-- an empty list stands for no pre-release, which comes last
abbrev pub by_pre_release : List Identifier → List Identifier → Ordering
by_pre_release [] [] = Equal
by_pre_release [] (y ∷ ys) = Greater
by_pre_release (x ∷ xs) [] = Less
by_pre_release (x ∷ xs) (y ∷ ys) = by_identifiers (x ∷ xs) (y ∷ ys)

-- the whole rule
unfoldable pub by_precedence : Semver → Semver → Ordering
by_precedence v w =
    ordering_then (by_value v.major w.major) (ordering_then (by_value v.minor w.minor) (ordering_then (by_value v.patch w.patch) (by_pre_release v.pre w.pre)))

-- v is w or a later one
abbrev pub at_least : Semver → Semver → Bool
at_least v w = is_ge (by_precedence v w)

-- 4.9.0
abbrev pub four_nine : Semver
four_nine = record { major = 4; minor = 9; patch = 0; pre = []; build = [] }
