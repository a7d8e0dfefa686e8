use Rattle.std.proofs.Common.{◌≡◌, ◌+◌, ◌∷◌, length, sym, ap, ◌∙◌, arith}
use Rattle.words.specs.Words.{ahead}
use Rattle.names.specs.AppNames.{named}
use Rattle.names.specs.Writing.{laid_at, tail}
use Rattle.words.proofs.Cut.{from_first, none_first}
use Rattle.names.proofs.Layers.{at-word, tail-long, no_name}
use Rattle.names.proofs.app.join_rest.Goals as goal
use Rattle.names.proofs.app.join_rest.Goals.{In-Some}

-- the word is the first of those that are still to be joined
split : (c : In-Some) → named (ahead c.loop-word.words.left) ≡ c.in-Some.word.now ∷ named (ahead c.next_of_name.new.words.left)
split c = from_first _ _ _ c.in-Some.ensures.word c.in-Some.ensures.rest

long : (c : In-Some) → length (tail (named (ahead c.loop-word.words.left))) ≡ 1 + (length c.in-Some.word.now + length (tail (named (ahead c.next_of_name.new.words.left))))
long c = ap (λ l. length (tail l)) (split c) ∙ tail-long c.in-Some.word.now (named (ahead c.next_of_name.new.words.left))

pub loop-word-preserved : goal.loop-word-preserved
loop-word-preserved c =
    let w = c.in-Some.word.now in
    let ms = named (ahead c.next_of_name.new.words.left) in
    let told = c.in-Some.ensures in
    let inv = c.loop-word.invariant in
    let i = (goal.at.loop-word-preserved c).In-Some in
    record {
      same = c.put-in-Some.ensures.same ∙ c.put.ensures.same ∙ inv.same;
      end = omega (arith, long i);
      written =
          at-word c.loop-word.out.end c.put.new.self.end c.put-in-Some.new.self.end w ms c.loop-word.out.scratch.now c.put.new.self.scratch.now c.put-in-Some.new.self.scratch.now
          c.put.ensures.end c.put.ensures.written c.put-in-Some.ensures.end c.put-in-Some.ensures.written
          ∙ ap (λ l. laid_at c.loop-word.out.end (tail l) c.loop-word.out.scratch.now) (sym (split i))
          ∙ inv.written;
      rest = told.same ∙ inv.rest;
      number = omega (arith, inv.number, ap length told.ended, told.number);
    }

pub returns-clause-number : goal.returns-clause-number
returns-clause-number c =
    let told = c.in_default.ensures in
    omega (arith, c.loop-word.invariant.number, told.number, ap length (told.ended ∙ no_name (ahead c.loop-word.words.left) (none_first (named (ahead c.loop-word.words.left)) told.word)))
