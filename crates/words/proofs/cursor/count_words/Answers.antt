use Rattle.std.proofs.Common.{◌≡◌, count_by, arith, rules}
use Rattle.std.proofs.lemmas.List.Splits.{length-slice_split}
use Rattle.words.specs.Words.{separates}
use Rattle.words.proofs.cursor.count_words.Goals as goal

pub returns : goal.returns
returns c =
    let h : c.count.result ≡ count_by separates c.args.s.now = search rules in
    omega (arith, length-slice_split separates c.args.s.now)
