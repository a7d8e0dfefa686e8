use Rattle.std.proofs.Common.{◌≡◌, ◌∷◌, [], sym, ◌∙◌, arith}
use Rattle.std.proofs.lemmas.List.{set_past}
use Rattle.census.specs.declared.record.BadId.{BadId}
use Rattle.census.specs.Steps.{laid_from}
use Rattle.census.proofs.Places.{laid_one}
use Rattle.census.proofs.count.note.Goals as goal
use Rattle.census.proofs.count.note.Goals.{then-found-bad, else-found-bad}

pub returns-after-found-bad : goal.returns-after-found-bad
returns-after-found-bad c =
    let n = c.args.found.now.bad_ids in
    let m = c.args.bad.now in
    let x : BadId = record { line = c.args.found.now.lines; cause = c.in-Err.cause } in
    let told : c.if-found-bad.bad ≡ laid_from n (x ∷ []) m = elim c.if-found-bad.branch [
      | then-found-bad w ↦ w.bad-is ∙ sym (laid_one n x m)
      | else-found-bad w ↦ w.bad-is ∙ sym (laid_one n x m ∙ set_past m n x w.if-found-bad.false)
    ] in
    grind arith
