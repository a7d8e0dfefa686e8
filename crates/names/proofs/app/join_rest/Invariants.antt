use Rattle.std.proofs.Common.{◌≡◌, ◌+◌, length}
use Rattle.words.specs.Words.{ahead}
use Rattle.names.specs.AppNames.{named, children}
use Rattle.names.specs.Writing.{laid_at, tail}
use Rattle.names.proofs.app.join_rest.Given as goal

abbrev pub invariant-loop-word : goal.invariant-loop-word
invariant-loop-word l = record {
  same : l.out.scratch.ghost_name ≡ l.initial.out.scratch.ghost_name;
  end : l.out.end + length (tail (named (ahead l.words.left))) ≡ l.initial.out.end + length (tail (named (ahead l.initial.words.left)));
  written : laid_at l.out.end (tail (named (ahead l.words.left))) l.out.scratch.now ≡ laid_at l.initial.out.end (tail (named (ahead l.initial.words.left))) l.initial.out.scratch.now;
  rest : children (ahead l.words.left) ≡ children (ahead l.initial.words.left);
  number : l.words.number + length (ahead l.words.left) ≡ l.initial.words.number + length (ahead l.initial.words.left);
}

abbrev pub decreases-loop-word : goal.decreases-loop-word
decreases-loop-word l = length (ahead l.words.left)
