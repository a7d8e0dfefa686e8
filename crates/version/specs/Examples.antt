-- The standard's worked examples of precedence, and a few of the grammar and the limit. Assumes nothing.
use Rattle.std.specs.Prelude.{◌≡◌, ℕ, ◌-◌, ◌^◌, true, false, [], ◌∷◌, Some, None, codes}
use Rattle.std.specs.declared.cmp.Ordering.TheVariants.{Less, Equal}
use Rattle.version.specs.Grammar.{Semver, numeric, alphanumeric, written}
use Rattle.version.specs.Law.{newness, compared}
use Rattle.version.specs.Reader.{parsed}

-- a version with all its parts
abbrev pub release : Semver
release = record {
  major = 1;
  minor = 0;
  patch = 0;
  pre = alphanumeric (codes "rc") ∷ numeric 10 ∷ alphanumeric (codes "0a") ∷ [];
  build = codes "007" ∷ codes "x-y" ∷ [];
}

abbrev pub number : ℕ → Semver
number n = record { major = n; minor = 0; patch = 0; pre = []; build = [] }

pub record Examples : Type 0 where
  pub is_written : written release ≡ codes "1.0.0-rc.10.0a+007.x-y"
  pub is_read : parsed (codes "1.0.0-rc.10.0a+007.x-y") ≡ Some release
  pub largest : parsed (codes "18446744073709551615.0.0") ≡ Some (number (2 ^ 64 - 1))
  pub too_large : parsed (codes "18446744073709551616.0.0") ≡ None
  pub leading_zero : parsed (codes "1.0.0-01") ≡ None
  pub fewer_fields : compared (codes "1.0.0-alpha") (codes "1.0.0-alpha.1") ≡ Some Less
  pub number_first : compared (codes "1.0.0-alpha.1") (codes "1.0.0-alpha.beta") ≡ Some Less
  pub first_field : compared (codes "1.0.0-alpha.beta") (codes "1.0.0-beta") ≡ Some Less
  pub one_more_field : compared (codes "1.0.0-beta") (codes "1.0.0-beta.2") ≡ Some Less
  pub by_number : compared (codes "1.0.0-beta.2") (codes "1.0.0-beta.11") ≡ Some Less
  pub by_letters : compared (codes "1.0.0-beta.11") (codes "1.0.0-rc.1") ≡ Some Less
  pub release_last : compared (codes "1.0.0-rc.1") (codes "1.0.0") ≡ Some Less
  pub build_ignored : compared (codes "1.0.0+a") (codes "1.0.0+b") ≡ Some Equal
  pub candidate_old : newness (codes "4.9.0-rc.1") ≡ Some false
  pub next_new : newness (codes "4.10.0-a") ≡ Some true
