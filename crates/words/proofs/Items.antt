-- The words that a cursor gives are the words ahead of it: where a proof of a chain of iterators begins at a cursor. Assumes nothing.
use Rattle.std.proofs.Common.{ℕ, ◌+◌, ◌^◌, ◌≤◌, List, length, Some, None, Option, ap, arith, Bor}
use Rattle.std.proofs.lemmas.Iterator.{YieldsList}
use Rattle.std.proofs.lemmas.Iterator.Consumers.{YieldsList-from_shown}
use Rattle.words.specs.declared.cursor.Words.{Words}
use Rattle.words.specs.Words.{ahead, size_left}
use Rattle.words.specs.Cursor.{GivesWord}
use Rattle.words.proofs.Cut.{words_count, from_first, none_first}

pub YieldsList-from_words : (s : Words) → YieldsList GivesWord (λ x. x.now) s (ahead s.left)
YieldsList-from_words s = YieldsList-from_shown GivesWord (λ x. x.now) (λ t. ahead t.left) (λ t u h. ap length (none_first _ h.word)) (λ t x u h. from_first _ _ _ h.word h.rest) s

-- all words of a line can be counted
pub ahead-few : (s : Words) → s.number + length (ahead s.left) ≤ 2 ^ 63
ahead-few s = by s.left s.fits
  where
    by : (o : Option (Bor (List ℕ))) → s.number + size_left o ≤ 2 ^ 63 → s.number + length (ahead o) ≤ 2 ^ 63
    by None h = omega arith
    by (Some r) h = omega (arith, words_count r.now)
