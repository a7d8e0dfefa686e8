use Rattle.std.proofs.Common.{◌≡◌, ℕ, ◌+◌, ◌<◌, ◌∷◌, List, length, get_or, drop, arith}
use Rattle.std.specs.List.{find}
use Rattle.std.proofs.lemmas.List.{at_drop_more, at_drop_all}
use Rattle.lines.proofs.Blank.{stops, told, front_told}
use Rattle.lines.proofs.starts_blank.Goals as goal

next : (s : List ℕ) (i : ℕ) → i < length s → told (find stops (drop i s)) ≡ told (find stops (get_or s i 0 ∷ drop (i + 1) s))
next s i h = at_drop_more (λ l. told (find stops l)) s i 0 h

pub loop-b-init : goal.loop-b-init
loop-b-init c = front_told c.args.s.now

pub returns : goal.returns
returns c = grind (arith, at_drop_all (λ l. told (find stops l)) c.args.s.now c.loop-b.b-index c.loop-b-test.false, c.loop-b.invariant)
