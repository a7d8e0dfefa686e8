-- `parsed` tells a version just where the text is one. Assumes nothing.
use Rattle.std.proofs.Common.{◌≡◌, ℕ, ◌<◌, Bool, true, cond, not, ◌&&◌, eqb, List, [], ◌∷◌, ◌++◌, map, is_some, Some, None, Option, Ordering, sym, refl, ap, ◌∙◌, subst, arith}
use Rattle.std.specs.Option.{option_map}
use Rattle.std.proofs.lemmas.List.{append_assoc}
use Rattle.std.proofs.lemmas.Bool.Decides.{nat_tests}
use Rattle.version.specs.Grammar.{every, character, decimal, limit, Semver, spelled, proper, tagged, marked, written, Denotes}
use Rattle.version.specs.Precedence.{by_precedence, at_least, four_nine}
use Rattle.version.specs.Reader.{then, cut_at, fields_of, core_of, released, identifier_of, assembled, parsed}
use Rattle.version.specs.Law.{newness, compared, Tells, TellsNewness, TellsPrecedence}
use Rattle.version.proofs.Parts.{parts_told, assembled-yes}
use Rattle.version.proofs.Joins.{back, clear, cut_back, cut_clear, marked-fields, text_of, fields-text, marked-text}
use Rattle.version.proofs.Identifiers.{every-weaker, every_append, every_map, map_same, spelled-identifier, proper-identifier, released-spelled, identifier_spelled, spelled-characters, tagged-characters, characters_clear, dotted-clear}
use Rattle.version.proofs.CoreLaw.{then_some, core_text, core_clear, core_written, core_told}

-- the parts of a text, grouped as they are cut off
regroup : (a b c p q : List ℕ) → a ++ (46 ∷ (b ++ (46 ∷ (c ++ (p ++ q))))) ≡ ((a ++ (46 ∷ (b ++ (46 ∷ c)))) ++ p) ++ q
regroup a b c p q = sym (simp append_assoc)

pub written-parts : (v : Semver) → written v ≡ (core_text v.major v.minor v.patch ++ marked 45 (map spelled v.pre)) ++ marked 43 v.build
unfolding written
written-parts v = regroup (decimal v.major) (decimal v.minor) (decimal v.patch) (marked 45 (map spelled v.pre)) (marked 43 v.build)

-- ---- every version within the limit is told
back_clear : (ts : List (List ℕ)) → every (every character) ts ≡ true → clear 43 (back 45 (text_of ts)) ≡ true
back_clear [] h = refl
back_clear (t ∷ ts) h = dotted-clear (t ∷ ts) h

module _ (text : List ℕ) (v : Semver) (d : Denotes text v) where
  told : parsed text ≡ Some v
  told =
      let texts = map spelled v.pre in
      let core = core_text v.major v.minor v.patch in
      let before = text_of texts in
      let after = text_of v.build in
      let pre-chars : every (every character) texts ≡ true = every_map (every character) proper spelled spelled-characters v.pre d.pre_proper in
      let build-chars : every (every character) v.build ≡ true = every-weaker tagged (every character) tagged-characters v.build d.build_proper in
      let whole : text ≡ (core ++ back 45 before) ++ back 43 after =
      sym d.as_written ∙ (written-parts v ∙ (λ i. (core ++ marked-text 45 texts i) ++ marked-text 43 v.build i)) in
      let outer : cut_at 43 text ≡ (core ++ back 45 before, after) =
      ap (cut_at 43) whole ∙ cut_clear 43 (core ++ back 45 before) after (every_append (λ b. not (eqb b 43)) core (back 45 before) (core_clear 43 v.major v.minor v.patch (omega arith)) (back_clear texts pre-chars)) in
      let inner : cut_at 45 (core ++ back 45 before) ≡ (core, before) = cut_clear 45 core before (core_clear 45 v.major v.minor v.patch (omega arith)) in
      let read = parts_told text (core ++ back 45 before) core before after (Some (v.major, v.minor, v.patch)) (ap (λ p. p.0) (sym outer)) (ap (λ p. p.1) (sym outer)) (ap (λ p. p.0) (sym inner)) (ap (λ p. p.1) (sym inner)) (sym (core_written v.major v.minor v.patch d.major_fits d.minor_fits d.patch_fits)) in
      let pre-fields : fields_of before ≡ texts = fields-text texts (characters_clear texts pre-chars) in
      let build-fields : fields_of after ≡ v.build = fields-text v.build (characters_clear v.build build-chars) in
      let pre-good : every released (fields_of before) ≡ true = ap (every released) pre-fields ∙ every_map released proper spelled released-spelled v.pre d.pre_proper in
      let build-good : every tagged (fields_of after) ≡ true = ap (every tagged) build-fields ∙ d.build_proper in
      let pre_same : map identifier_of (fields_of before) ≡ v.pre = ap (map identifier_of) pre-fields ∙ map_same proper spelled identifier_of identifier_spelled v.pre d.pre_proper in
      read ∙ (assembled-yes (v.major, v.minor, v.patch) before after pre-good build-good ∙ (λ i. Some (record { major = v.major; minor = v.minor; patch = v.patch; pre = pre_same i; build = build-fields i })))

-- ---- what is told is the version
abbrev made : ℕ × ℕ × ℕ → Option (List ℕ) → Option (List ℕ) → Semver
made n before after = record { major = n.0; minor = n.1; patch = n.2; pre = map identifier_of (fields_of before); build = fields_of after }

assembled-told : (n : ℕ × ℕ × ℕ) (before after : Option (List ℕ)) (v : Semver) → assembled (Some n) before after ≡ Some v → (every released (fields_of before) ≡ true) × (every tagged (fields_of after) ≡ true) × (made n before after ≡ v)
assembled-told n before after v h = (grind (arith, nat_tests), grind (arith, nat_tests), grind (arith, nat_tests))

-- n, before and after are the parts that were read
module _ (text rest core : List ℕ) (before after : Option (List ℕ)) (n : ℕ × ℕ × ℕ) where
  denotes_made : rest ++ back 43 after ≡ text → core ++ back 45 before ≡ rest → (core_text n.0 n.1 n.2 ≡ core) × (n.0 < limit) × (n.1 < limit) × (n.2 < limit) → every released (fields_of before) ≡ true → every tagged (fields_of after) ≡ true → Denotes text (made n before after)
  denotes_made outer inner c p q =
      let pre_same : marked 45 (map spelled (map identifier_of (fields_of before))) ≡ back 45 before =
      ap (marked 45) (map_same released identifier_of spelled spelled-identifier (fields_of before) p) ∙ marked-fields 45 before in
      record {
        major_fits = c.1;
        minor_fits = c.2;
        patch_fits = c.3;
        pre_proper = every_map proper released identifier_of proper-identifier (fields_of before) p;
        build_proper = q;
        as_written = written-parts (made n before after) ∙ ((λ i. (c.0 i ++ pre_same i) ++ marked-fields 43 after i) ∙ (ap (λ x. x ++ back 43 after) inner ∙ outer));
      }

module _ (text : List ℕ) (v : Semver) (h : parsed text ≡ Some v) where
  is-denoted : Denotes text v
  unfolding parsed
  is-denoted =
      let rest = (cut_at 43 text).0 in
      let after = (cut_at 43 text).1 in
      let core = (cut_at 45 rest).0 in
      let before = (cut_at 45 rest).1 in
      let some = then_some (core_of core) (λ n. cond (every released (fields_of before) && every tagged (fields_of after)) (Some (made n before after)) None) v h in
      let parts = assembled-told some.0 before after v some.2 in
      subst (Denotes text) parts.2 (denotes_made text rest core before after some.0 (cut_back 43 text) (cut_back 45 rest) (core_told core some.0.0 some.0.1 some.0.2 some.1) parts.0 parts.1)

-- ---- both
pub tells : (text : List ℕ) → Tells text (parsed text)
tells text = record { sound = is-denoted text; complete = told text }

-- the same of what the code tells
pub tells_same : (text : List ℕ) (o : Option Semver) → o ≡ parsed text → Tells text o
tells_same text o e = subst (Tells text) (sym e) (tells text)

mapped_some : {X Y : Type 0} (f : X → Y) (o : Option X) → is_some (option_map f o) ≡ true → (x : X) × (o ≡ Some x)
mapped_some f None h = absurd (cc)
mapped_some f (Some x) h = (x, refl)

pub tells_newness : (text : List ℕ) → TellsNewness text (newness text)
tells_newness text = record {
  sound = λ h. let p = mapped_some (λ v. at_least v four_nine) (parsed text) h in (p.0, is-denoted text p.0 p.1);
  complete = λ v d. ap (option_map (λ w. at_least w four_nine)) (told text v d);
}

-- the same of what the code tells
pub tells_newness_same : (text : List ℕ) (o : Option Bool) → o ≡ newness text → TellsNewness text o
tells_newness_same text o e = subst (TellsNewness text) (sym e) (tells_newness text)

compared-some : (o p : Option Semver) → is_some (then o (λ v. option_map (by_precedence v) p)) ≡ true → (v : Semver) × (w : Semver) × (o ≡ Some v) × (p ≡ Some w)
compared-some None p h = absurd (cc)
compared-some (Some v) p h = let q = mapped_some (by_precedence v) p h in (v, q.0, refl, q.1)

pub tells_precedence : (one two : List ℕ) → TellsPrecedence one two (compared one two)
tells_precedence one two = record {
  sound = λ h. let p = compared-some (parsed one) (parsed two) h in (p.0, p.1, is-denoted one p.0 p.2, is-denoted two p.1 p.3);
  complete = λ v w d e. (λ i. then (told one v d i) (λ x. option_map (by_precedence x) (told two w e i)));
}

-- the same of what the code tells
pub tells_precedence_same : (one two : List ℕ) (o : Option Ordering) → o ≡ compared one two → TellsPrecedence one two o
tells_precedence_same one two o e = subst (TellsPrecedence one two) (sym e) (tells_precedence one two)
