-- The first field is what stands before the first dot, and the others are the fields of what stands after it. Assumes nothing.
use Rattle.std.proofs.Common.{◌≡◌, ℕ, List, [], ◌∷◌, map, refl, arith, Less, Greater}
use Rattle.std.proofs.lemmas.Bool.Decides.{nat_tests}
use Rattle.version.specs.Precedence.{by_identifiers, by_pre_release}
use Rattle.version.specs.Reader.{cut_at, fields, fields_of, identifier_of}

pub fields-cut : (t : List ℕ) → fields t ≡ (cut_at 46 t).0 ∷ fields_of (cut_at 46 t).1
fields-cut [] = refl
fields-cut (b ∷ bs) = let h = fields-cut bs in grind (arith, nat_tests)

-- a text has fields, so a pre-release has identifiers
pub pre_right : (t : List ℕ) → Greater ≡ by_pre_release [] (map identifier_of (fields t))
pre_right t = rw (fields-cut t) refl

pub pre_left : (t : List ℕ) → Less ≡ by_pre_release (map identifier_of (fields t)) []
pre_left t = rw (fields-cut t) refl

pub pre_both : (s t : List ℕ) → by_identifiers (map identifier_of (fields s)) (map identifier_of (fields t)) ≡ by_pre_release (map identifier_of (fields s)) (map identifier_of (fields t))
pre_both s t = rw (fields-cut s, fields-cut t) refl
