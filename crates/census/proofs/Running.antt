-- What a count knows between two lines. Assumes nothing.
use Rattle.std.proofs.Common.{◌≡◌, ℕ, ◌+◌, ◌<◌, ◌≤◌, Bool, cond, List, [], ◌∷◌, ◌++◌, length, get_or, is_some, Some, None, Option, refl, append_assoc, append-nil, arith, length-append, length-set, get_or-set_other, get_or-set_same}
use Rattle.std.proofs.lemmas.List.{get_or_past}
use Rattle.std.proofs.lemmas.Grind.{common_steps}
use Rattle.std.proofs.lemmas.List.Sums.{sum_by_push, sum_by-cons, count_by-le-length}
use Rattle.std.specs.Array.{AllOfLen}
use Rattle.words.specs.declared.kind.LineKind.{LineKind}
use Rattle.words.specs.Kinds.{number_of}
use Rattle.census.specs.declared.record.BadId.{BadId}
use Rattle.census.specs.declared.record.IdCause.{IdCause}
use Rattle.census.specs.declared.record.Census.{Census}
use Rattle.census.specs.declared.record.LineClass.{LineClass}
use Rattle.census.specs.declared.record.LineClass.TheVariants.{TooLong, Unknown, Known}
use Rattle.census.specs.Counts.{how_many, class_of, is_known, is_unknown, is_too_long, has_good_id, has_bad_id, bad_cause, noted, bad_ids_from}
use Rattle.census.specs.Found.{CensusOf}
use Rattle.census.specs.Steps.{OneMore, Small, bumped}
use Rattle.census.proofs.Places.{laid-behind}

-- the census of the lines so far
pub record Running (ls : List (List ℕ)) (c : Census) (before after : List BadId) : Type 0 where
  pub census : CensusOf ls c before after
  pub few : (i : ℕ) → get_or c.kinds i 0 ≤ length ls

many_push : (p : List ℕ → Bool) (ls : List (List ℕ)) (l : List ℕ) → how_many p (ls ++ l ∷ []) ≡ how_many p ls + cond (p l) 1 0
many_push p ls l = sum_by_push (λ x. cond (p x) 1 0) ls l

bad_push : (n : ℕ) (ls : List (List ℕ)) (l : List ℕ) → bad_ids_from n (ls ++ l ∷ []) ≡ bad_ids_from n ls ++ noted (n + length ls) (bad_cause l)
bad_push n [] l = grind (arith, append-nil)
bad_push n (x ∷ ls) l = grind (arith, bad_push (n + 1) ls l, append_assoc)

noted-long : (n : ℕ) (o : Option IdCause) → length (noted n o) ≡ cond (is_some o) 1 0
noted-long n None = refl
noted-long n (Some c) = refl

bad_long : (n : ℕ) (ls : List (List ℕ)) → length (bad_ids_from n ls) ≡ how_many has_bad_id ls
bad_long n [] = refl
bad_long n (l ∷ ls) = grind (arith, length-append {A = BadId}, noted-long, bad_long (n + 1) ls, sum_by-cons (λ x. cond (has_bad_id x) 1 0) l ls)

-- the kinds' numbers, one line more
number-low : (k : LineKind) → number_of k < 25
number-low k = grind arith

bump_at : (k : LineKind) (v : LineClass) (ks : List ℕ) → length ks ≡ 25 → get_or (bumped v ks) (number_of k) 0 ≡ get_or ks (number_of k) 0 + cond (is_known k v) 1 0
bump_at k TooLong ks h = omega arith
bump_at k Unknown ks h = omega arith
bump_at k (Known j) ks h = grind (arith, common_steps, number-low j)

bump_long : (v : LineClass) (ks : List ℕ) → length (bumped v ks) ≡ length ks
bump_long TooLong ks = refl
bump_long Unknown ks = refl
bump_long (Known k) ks = length-set ks (number_of k) _

bump_few : (v : LineClass) (ks : List ℕ) (n i : ℕ) → length ks ≡ 25 → ((j : ℕ) → get_or ks j 0 ≤ n) → get_or (bumped v ks) i 0 ≤ n + 1
bump_few TooLong ks n i e h = omega (arith, h i)
bump_few Unknown ks n i e h = omega (arith, h i)
bump_few (Known k) ks n i e h = let v = get_or ks (number_of k) 0 + 1 in grind (arith, number-low k, h i, h (number_of k), get_or-set_same ks (number_of k) v 0, get_or-set_other ks (number_of k) i v 0)

more : (ls : List (List ℕ)) (l : List ℕ) (c d : Census) (before middle after : List BadId) → CensusOf ls c before middle → OneMore l c d middle after → CensusOf (ls ++ l ∷ []) d before after
more ls l c d before middle after r s = record {
  lines = grind (arith, length-append {A = List ℕ});
  kinds = λ k. grind (arith, bump_at k (class_of l) c.kinds, r.kinds k, many_push);
  places = grind (arith, bump_long);
  unknown = grind (arith, many_push);
  too_long = grind (arith, many_push);
  good = grind (arith, many_push);
  bad = grind (arith, many_push);
  told = grind (arith, bad_long 0 ls, laid-behind, bad_push);
}

-- before the first line
pub running_start : (c : Census) (b : List BadId) → c.lines ≡ 0 → AllOfLen (λ n. n ≡ 0) c.kinds 25 → c.unknown ≡ 0 → c.too_long ≡ 0 → c.good_ids ≡ 0 → c.bad_ids ≡ 0 → Running [] c b b
running_start c b lines all unknown too_long good bad = record {
  census = record { lines = lines; kinds = λ k. all.at (number_of k) 0 (number-low k); places = all.long; unknown = unknown; too_long = too_long; good = good; bad = bad; told = refl };
  few = λ i. grind (arith, all.at i 0, get_or_past c.kinds i 0);
}

-- one line more
pub running_more : (ls : List (List ℕ)) (l : List ℕ) (c d : Census) (before middle after : List BadId) → Running ls c before middle → OneMore l c d middle after → Running (ls ++ l ∷ []) d before after
running_more ls l c d before middle after r s = record {
  census = more ls l c d before middle after r.census s;
  few = λ i. grind (arith, bump_few (class_of l) c.kinds (length ls) i r.census.places r.few, length-append {A = List ℕ});
}

-- no number is larger than the number of lines
pub running_small : (ls : List (List ℕ)) (c : Census) (before after : List BadId) → Running ls c before after → length ls + 1 < 18446744073709551616 → Small c
running_small ls c before after r h =
    let t = r.census in
    record {
      lines = omega (arith, t.lines);
      kinds = λ i. omega (arith, r.few i);
      unknown = omega (arith, t.unknown, count_by-le-length (λ x. is_unknown (class_of x)) ls);
      too_long = omega (arith, t.too_long, count_by-le-length (λ x. is_too_long (class_of x)) ls);
      good = omega (arith, t.good, count_by-le-length has_good_id ls);
      bad = omega (arith, t.bad, count_by-le-length has_bad_id ls);
    }
