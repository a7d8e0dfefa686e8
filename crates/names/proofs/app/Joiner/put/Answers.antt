use Rattle.std.proofs.Common.{◌+◌, ◌-◌, ◌++◌, take, drop, sym, ap, ◌∙◌, drop-drop, arith}
use borrow.Rule.Slice.PartMut.{post_of}
use Rattle.names.proofs.Layers.{laid_at_is}
use Rattle.names.proofs.app.Joiner.put.Goals as goal

pub returns-clause-written : goal.returns-clause-written
returns-clause-written c =
    let m = c.args.self.now.scratch.now in
    let xs = c.args.part.now in
    let s = c.min-start.result in
    let n = c.min-n.result in
    ap (λ l. take s m ++ (l ++ post_of s (s + n - s) m)) c.copy_from_slice.ensures.after
    ∙ ap (λ l. take s m ++ (take n xs ++ l)) (drop-drop (s + n - s) s m ∙ ap (λ k. drop k m) (omega arith))
    ∙ sym (laid_at_is c.args.self.now.end xs m s n (omega arith) (omega arith))
