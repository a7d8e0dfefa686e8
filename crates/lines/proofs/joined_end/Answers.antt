use Rattle.std.proofs.Common.{◌≡◌, ◌+◌, ◌<◌, length, false, refl, subst, Some, None, arith, sym, ap, ◌∙◌}
use Rattle.std.proofs.lemmas.List.{take_rest}
use Rattle.lines.specs.Lines.{line_len, ends_at}
use Rattle.lines.proofs.Joining.{IsFirst, first_ends, searched_to, searched_on}
use Rattle.lines.proofs.joined_end.Goals as goal
use Rattle.lines.proofs.joined_end.Goals.{else-at-s-via-then-at-s+else-ends_at, else-at-s-via-else-at-s}

pub returns-then-ends_at : goal.returns-then-ends_at
returns-then-ends_at c =
    let s = c.args.s.now in
    let alone = c.starts_blank-alone.result in
    let n = c.line_feed.result in
    let r = Some (c.loop-from.from + n) in
    let to = searched_to alone s c.loop-from.from n c.loop-from.invariant (c.line_feed.ensures.value ∙ ap line_len (take_rest s c.loop-from.from)) in
    first_ends _ s r refl (subst (λ b. IsFirst b s r) c.starts_blank-alone.ensures (c.if-at-s.true, sym c.ends_at.ensures ∙ c.if-ends_at.true, λ k lt. to k lt (omega (arith, c.if-at-s.true))))

pub loop-from-preserved : goal.loop-from-preserved
loop-from-preserved c =
    let s = c.args.s.now in
    let alone = c.starts_blank-alone.result in
    let from = c.loop-from.from in
    let n = c.line_feed.result in
    let last : from + n < length s → ends_at alone s (from + n) ≡ false = λ lt. elim c.else-at-s.branch [
      | else-at-s-via-then-at-s+else-ends_at w ↦ sym w.ends_at.ensures ∙ w.if-ends_at.false
      | else-at-s-via-else-at-s w ↦ absurd (omega (arith, w.if-at-s.false))
    ] in
    searched_on alone s from n c.loop-from.invariant (c.line_feed.ensures.value ∙ ap line_len (take_rest s from)) last

pub returns : goal.returns
returns c =
    let s = c.args.s.now in
    first_ends _ s None refl (subst (λ b. IsFirst b s None) c.starts_blank-alone.ensures (λ k lt. c.loop-from.invariant k (omega (arith, c.loop-from-test.false)) lt))
