-- What is told of texts, and that it is what the standard says of the versions that they are. Assumes nothing.
use Rattle.std.specs.Prelude.{◌≡◌, ℕ, Bool, true, List, is_some, Some, Option}
use Rattle.std.specs.declared.cmp.Ordering.TheVariants.{Less, Equal}
use Rattle.std.specs.declared.cmp.Ordering.{Ordering}
use Rattle.std.specs.Option.{option_map}
use Rattle.std.specs.Ordering.{ordering_reverse}
use Rattle.version.specs.Grammar.{Semver, Denotes}
use Rattle.version.specs.Precedence.{by_precedence, at_least, four_nine}
use Rattle.version.specs.Reader.{then, parsed}

-- whether the version is 4.9.0 or later
abbrev pub newness : List ℕ → Option Bool
newness text = option_map (λ v. at_least v four_nine) (parsed text)

-- which of two versions comes first
abbrev pub compared : List ℕ → List ℕ → Option Ordering
compared one two = then (parsed one) (λ v. option_map (by_precedence v) (parsed two))

-- told is the version that the text is: what is told is it, and every version within the limit is told
pub record Tells (text : List ℕ) (told : Option Semver) : Type 0 where
  pub sound : (v : Semver) → told ≡ Some v → Denotes text v
  pub complete : (v : Semver) → Denotes text v → told ≡ Some v

-- told says whether the version that the text is comes at 4.9.0 or later, and is nothing where the text is no version
pub record TellsNewness (text : List ℕ) (told : Option Bool) : Type 0 where
  pub sound : is_some told ≡ true → (v : Semver) × Denotes text v
  pub complete : (v : Semver) → Denotes text v → told ≡ Some (at_least v four_nine)

-- told says which of the versions that the texts are comes first, and is nothing where one of them is no version
pub record TellsPrecedence (one two : List ℕ) (told : Option Ordering) : Type 0 where
  pub sound : is_some told ≡ true → (v : Semver) × (w : Semver) × Denotes one v × Denotes two w
  pub complete : (v w : Semver) → Denotes one v → Denotes two w → told ≡ Some (by_precedence v w)

-- Precedence is a total order of versions, up to their build metadata: of two the one comes first just where the other comes
-- last, what comes before an earlier one comes before the later one too, and neither comes first just where they are the same
-- but for build metadata
pub record Orders : Type 0 where
  pub turned : (v w : Semver) → by_precedence w v ≡ ordering_reverse (by_precedence v w)
  pub chained : (u v w : Semver) → by_precedence u v ≡ Less → by_precedence v w ≡ Less → by_precedence u w ≡ Less
  pub same : (v w : Semver) → by_precedence v w ≡ Equal → (v.major ≡ w.major) × (v.minor ≡ w.minor) × (v.patch ≡ w.patch) × (v.pre ≡ w.pre)
  pub equal : (v w : Semver) → v.major ≡ w.major → v.minor ≡ w.minor → v.patch ≡ w.patch → v.pre ≡ w.pre → by_precedence v w ≡ Equal
