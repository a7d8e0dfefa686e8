-- The code's values as the values of the definitions. Assumes nothing.
use Rattle.std.specs.Prelude.{ℕ, Bool, List, map, Option}
use Rattle.std.specs.Borrow.{Bor}
use Rattle.version.specs.Grammar.{digit, character, tagged, Identifier, Semver}
use Rattle.version.specs.Reader.{fields_in, released, identifier_of}
use Rattle.version.specs.declared.bytes.Class.{Class}
use Rattle.version.specs.declared.bytes.Class.TheVariants.{Digits, Characters}
use Rattle.version.specs.declared.fields.Part.{Part}
use Rattle.version.specs.declared.fields.Part.TheVariants.{PreRelease, Build}
use Rattle.version.specs.declared.number.Core.{Core}
use Rattle.version.specs.declared.version.Version.{Version}

-- the bytes of a class
abbrev pub in_class : Class → ℕ → Bool
in_class Digits b = digit b
in_class Characters b = character b

-- a field that may stand in the part
abbrev pub taken_in : Part → List ℕ → Bool
taken_in PreRelease t = released t
taken_in Build t = tagged t

-- the three numbers
abbrev pub three : Core → ℕ × ℕ × ℕ
three n = (n.major, n.minor, n.patch)

-- the identifiers of a lent pre-release, or none
abbrev pub identifiers_in : Option (Bor (List ℕ)) → List Identifier
identifiers_in o = map identifier_of (fields_in o)

-- the version that the code holds
abbrev pub seen : Version → Semver
seen v = record {
  major = v.core.major;
  minor = v.core.minor;
  patch = v.core.patch;
  pre = identifiers_in v.pre;
  build = fields_in v.build;
}
