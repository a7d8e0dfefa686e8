-- The order of ranks is that of the identifiers that they stand for. Assumes nothing.
use Rattle.std.proofs.Common.{◌≡◌, ℕ, Bool, true, false, cond, List, length, [], ◌∷◌, map, Ordering, Less, Equal, Greater, refl}
use Rattle.std.specs.Cmp.Lexicographic.{slice_cmp}
use Rattle.std.specs.Ordering.{ordering_then}
use Rattle.std.proofs.lemmas.Bool.{and_parts}
use Rattle.version.specs.Grammar.{digit, every, numeric, alphanumeric}
use Rattle.version.specs.Precedence.{by_value, bytes_order, by_identifier, by_identifiers}
use Rattle.version.specs.Ranks.{rank, rank_of}
use Rattle.version.specs.declared.identifier.Ident.{Ident}
use Rattle.version.specs.declared.identifier.Ident.TheVariants.{Number, Text}
use Rattle.version.specs.contracts.identifier.IdentOrd.TheImpl.{ghosts}
use Rattle.version.specs.Reader.{value_on, released, identifier_of}
use Rattle.version.proofs.Identifiers.{released-digits}
use Rattle.version.proofs.Numerals.{by_numerals}

abbrev pub by_rank : ℕ × ℕ × List ℕ → ℕ × ℕ × List ℕ → Ordering
by_rank k l = ordering_then (by_value k.0 l.0) (ordering_then (by_value k.1 l.1) (bytes_order k.2 l.2))

module _ (s t : List ℕ) (p : released s ≡ true) (q : released t ≡ true) where
  of_kinds : (b c : Bool) → every digit s ≡ b → every digit t ≡ c → by_rank (cond b (0, length s, s) (1, 0, s)) (cond c (0, length t, t) (1, 0, t)) ≡ by_identifier (cond b (numeric (value_on 0 s)) (alphanumeric s)) (cond c (numeric (value_on 0 t)) (alphanumeric t))
  of_kinds true true d e = by_numerals s t (released-digits s p d) (released-digits t q e)
  of_kinds true false d e = refl
  of_kinds false true d e = refl
  of_kinds false false d e = refl

  of_one : by_rank (rank_of s) (rank_of t) ≡ by_identifier (identifier_of s) (identifier_of t)
  of_one = of_kinds (every digit s) (every digit t) refl refl

pub of_all : (fs gs : List (List ℕ)) → every released fs ≡ true → every released gs ≡ true → slice_cmp by_rank (map rank_of fs) (map rank_of gs) ≡ by_identifiers (map identifier_of fs) (map identifier_of gs)
of_all [] [] p q = refl
of_all [] (g ∷ gs) p q = refl
of_all (f ∷ fs) [] p q = refl
of_all (f ∷ fs) (g ∷ gs) p q =
    let ps = and_parts (released f) (every released fs) p in
    let qs = and_parts (released g) (every released gs) q in
    λ i. ordering_then (of_one f g ps.0 qs.0 i) (of_all fs gs ps.1 qs.1 i)

pub then_assoc : (a b c : Ordering) → ordering_then (ordering_then a b) c ≡ ordering_then a (ordering_then b c)
then_assoc Less b c = refl
then_assoc Equal b c = refl
then_assoc Greater b c = refl

pub cmp-rank : (x y : Ident) → ghosts.cmp x y ≡ by_rank (rank x) (rank y)
cmp-rank (Number m s) (Number n t) = refl
cmp-rank (Number m s) (Text t) = refl
cmp-rank (Text s) (Number n t) = refl
cmp-rank (Text s) (Text t) = refl
