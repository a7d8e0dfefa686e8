-- What a version is and how it is written: Semantic Versioning 2.0.0, with its three numbers below 2^64. Assumes nothing.
--
--     version      major . minor . patch, then perhaps `-` and a pre-release, then perhaps `+` and build metadata
--     major, minor, patch     numbers, written in decimal without leading zeros (clause 2)
--     pre-release  one or more identifiers with a dot between them; none is empty; each is a number, written in decimal
--                  without leading zeros and of any size, or a text of letters, digits and hyphens that is not all digits (clause 9)
--     build        one or more identifiers with a dot between them; none is empty; each is of letters, digits and
--                  hyphens, and zeros may lead (clause 10)
--
-- So a version is a value of `Semver`, and a text is a version if it is what `written` makes of such a value.
use Rattle.std.specs.Prelude.{◌≡◌, ℕ, ◌+◌, ◌^◌, ◌<◌, Bool, true, cond, not, ◌&&◌, ◌||◌, List, [], ◌∷◌, ◌++◌, map, length, ◌==◌, nat_le, nat_lt}
use Rattle.std.specs.Int.Digits.{digits_of}
use Rattle.std.specs.List.{list_all, join_with_byte}

-- the bytes `0` to `9`
abbrev pub digit : ℕ → Bool
digit b = nat_le 48 b && nat_le b 57

-- the bytes `A` to `Z` and `a` to `z`
abbrev pub letter : ℕ → Bool
letter b = (nat_le 65 b && nat_le b 90) || (nat_le 97 b && nat_le b 122)

-- what identifiers are made of: digits, letters and the hyphen
abbrev pub character : ℕ → Bool
character b = digit b || (letter b || b == 45)

-- each element passes the test
abbrev pub every : {X : Type 0} → (X → Bool) → List X → Bool
every test xs = list_all test xs

-- a number in decimal, without leading zeros
abbrev pub decimal : ℕ → List ℕ
decimal n = cond (n == 0) (48 ∷ []) (map (λ d. 48 + d) (digits_of 10 n))

-- an identifier of a pre-release: a number, or a text that is none
pub data Identifier : Type 0 where
  numeric : ℕ → Identifier
  alphanumeric : List ℕ → Identifier

-- a version. With no pre-release, or no build metadata, that list is empty
pub record Semver : Type 0 where
  pub major : ℕ
  pub minor : ℕ
  pub patch : ℕ
  pub pre : List Identifier
  pub build : List (List ℕ)

-- an identifier as text
abbrev pub spelled : Identifier → List ℕ
spelled (numeric n) = decimal n
spelled (alphanumeric t) = t

-- t is of letters, digits and hyphens, and one of them is no digit (so it is not empty)
abbrev pub wordy : List ℕ → Bool
wordy t = every character t && not (every digit t)

-- any number is an identifier of a pre-release; a text must be `wordy`
abbrev pub proper : Identifier → Bool
proper (numeric n) = true
proper (alphanumeric t) = wordy t

-- an identifier of build metadata
abbrev pub tagged : List ℕ → Bool
tagged t = nat_lt 0 (length t) && every character t

-- with a dot between each two
abbrev pub dotted : List (List ℕ) → List ℕ
dotted ts = join_with_byte 46 ts

-- the byte and then the identifiers, or nothing where there are none
abbrev pub marked : ℕ → List (List ℕ) → List ℕ
marked b [] = []
marked b (t ∷ ts) = b ∷ dotted (t ∷ ts)

-- the text of a version: 46 is `.`, 45 is `-` and 43 is `+`
unfoldable pub written : Semver → List ℕ
written v =
    decimal v.major ++ (46 ∷ (decimal v.minor ++ (46 ∷ (decimal v.patch ++ (marked 45 (map spelled v.pre) ++ marked 43 v.build)))))

-- the three numbers stay below this
abbrev pub limit : ℕ
limit = 2 ^ 64

-- the text is the version v, within the limit
pub record Denotes (text : List ℕ) (v : Semver) : Type 0 where
  pub major_fits : v.major < limit
  pub minor_fits : v.minor < limit
  pub patch_fits : v.patch < limit
  pub pre_proper : every proper v.pre ≡ true
  pub build_proper : every tagged v.build ≡ true
  pub as_written : written v ≡ text
