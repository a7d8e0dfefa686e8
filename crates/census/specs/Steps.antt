-- One line more is counted; only the count's own steps speak of this. Assumes nothing.
use Rattle.std.specs.Prelude.{◌≡◌, ℕ, zero, suc, ◌+◌, ◌^◌, ◌<◌, cond, List, [], ◌∷◌, slice_index, slice_set}
use Rattle.words.specs.Kinds.{number_of}
use Rattle.words.specs.Laid.{laid}
use Rattle.census.specs.declared.record.BadId.{BadId}
use Rattle.census.specs.declared.record.Census.{Census}
use Rattle.census.specs.declared.record.LineClass.{LineClass}
use Rattle.census.specs.declared.record.LineClass.TheVariants.{TooLong, Unknown, Known}
use Rattle.census.specs.Counts.{class_of, is_unknown, is_too_long, has_good_id, has_bad_id, bad_cause, noted}

-- records written over a memory from a place on, as far as it goes
abbrev pub laid_from : {A : Type 0} → ℕ → List A → List A → List A
laid_from zero xs m = laid xs m
laid_from (suc n) xs [] = []
laid_from (suc n) xs (y ∷ m) = y ∷ laid_from n xs m

abbrev pub bumped : LineClass → List ℕ → List ℕ
bumped TooLong ks = ks
bumped Unknown ks = ks
bumped (Known k) ks = slice_set ks (number_of k) (slice_index ks (number_of k) + 1)

-- every number can still grow by one
pub record Small (c : Census) : Type 0 where
  pub lines : c.lines + 1 < 2 ^ 64
  pub kinds : (i : ℕ) → slice_index c.kinds i + 1 < 2 ^ 64
  pub unknown : c.unknown + 1 < 2 ^ 64
  pub too_long : c.too_long + 1 < 2 ^ 64
  pub good : c.good_ids + 1 < 2 ^ 64
  pub bad : c.bad_ids + 1 < 2 ^ 64

pub record OneMore (l : List ℕ) (c d : Census) (before after : List BadId) : Type 0 where
  pub lines : d.lines ≡ c.lines + 1
  pub kinds : d.kinds ≡ bumped (class_of l) c.kinds
  pub unknown : d.unknown ≡ c.unknown + cond (is_unknown (class_of l)) 1 0
  pub too_long : d.too_long ≡ c.too_long + cond (is_too_long (class_of l)) 1 0
  pub good : d.good_ids ≡ c.good_ids + cond (has_good_id l) 1 0
  pub bad : d.bad_ids ≡ c.bad_ids + cond (has_bad_id l) 1 0
  pub told : after ≡ laid_from c.bad_ids (noted c.lines (bad_cause l)) before
