-- What a census of some lines says. Assumes nothing.
use Rattle.std.specs.Prelude.{◌≡◌, ℕ, List, length, slice_index}
use Rattle.words.specs.declared.kind.LineKind.{LineKind}
use Rattle.words.specs.Kinds.{number_of}
use Rattle.words.specs.Laid.{laid}
use Rattle.census.specs.declared.record.BadId.{BadId}
use Rattle.census.specs.declared.record.Census.{Census}
use Rattle.census.specs.Counts.{how_many, class_of, is_known, is_unknown, is_too_long, has_good_id, has_bad_id, bad_ids_from}

-- each number is how many of the lines are such; the first bad identifiers stand in the lent memory, as many as fit
pub record CensusOf (ls : List (List ℕ)) (c : Census) (before after : List BadId) : Type 0 where
  pub lines : c.lines ≡ length ls
  pub kinds : (k : LineKind) → slice_index c.kinds (number_of k) ≡ how_many (λ l. is_known k (class_of l)) ls
  pub places : length c.kinds ≡ 25
  pub unknown : c.unknown ≡ how_many (λ l. is_unknown (class_of l)) ls
  pub too_long : c.too_long ≡ how_many (λ l. is_too_long (class_of l)) ls
  pub good : c.good_ids ≡ how_many has_good_id ls
  pub bad : c.bad_ids ≡ how_many has_bad_id ls
  pub told : after ≡ laid (bad_ids_from 0 ls) before
