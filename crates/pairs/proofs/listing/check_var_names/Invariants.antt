use Rattle.std.proofs.Common.{◌≡◌, ◌≤◌, length}
use Rattle.words.specs.Words.{ahead}
use Rattle.pairs.specs.Names.{entries_read}
use Rattle.pairs.proofs.Entries.{counted}
use Rattle.pairs.proofs.listing.check_var_names.Given as goal

abbrev pub invariant-loop-first : goal.invariant-loop-first
invariant-loop-first l =
    (l.pairs ≤ l.cursor.number)
    × (counted l.pairs (entries_read l.first.form l.form l.cursor.number 0 (ahead l.cursor.left)) ≡ counted 0 (entries_read l.first.form l.form l.words.number 0 (ahead l.words.left)))

abbrev pub decreases-loop-first : goal.decreases-loop-first
decreases-loop-first l = length (ahead l.cursor.left)
