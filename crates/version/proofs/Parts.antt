-- What is read of a version's parts. Assumes nothing.
use Rattle.std.proofs.Common.{◌≡◌, ℕ, true, false, List, map, Some, None, Option, refl, arith}
use Rattle.std.proofs.lemmas.Bool.Decides.{nat_tests}
use Rattle.version.specs.Grammar.{every, tagged}
use Rattle.version.specs.Reader.{cut_at, fields_of, core_of, released, identifier_of, assembled, parsed}

pub parts_told : (text rest core : List ℕ) (before after : Option (List ℕ)) (n : Option (ℕ × ℕ × ℕ)) → rest ≡ (cut_at 43 text).0 → after ≡ (cut_at 43 text).1 → core ≡ (cut_at 45 rest).0 → before ≡ (cut_at 45 rest).1 → n ≡ core_of core → parsed text ≡ assembled n before after
unfolding parsed
parts_told text rest core before after n r a k b m = rw (m, k, b, r, a) refl

module _ (n : ℕ × ℕ × ℕ) (before after : Option (List ℕ)) where
  pub assembled-yes : every released (fields_of before) ≡ true → every tagged (fields_of after) ≡ true → assembled (Some n) before after ≡ Some (record { major = n.0; minor = n.1; patch = n.2; pre = map identifier_of (fields_of before); build = fields_of after })
  assembled-yes p q = grind (arith, nat_tests)

  pub assembled-no_pre : every released (fields_of before) ≡ false → assembled (Some n) before after ≡ None
  assembled-no_pre p = grind (arith, nat_tests)

  pub assembled-no_build : every tagged (fields_of after) ≡ false → assembled (Some n) before after ≡ None
  assembled-no_build p = grind (arith, nat_tests)
