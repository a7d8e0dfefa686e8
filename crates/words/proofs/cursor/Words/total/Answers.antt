use Rattle.std.proofs.Common.{◌≡◌, length, arith, rules}
use Rattle.words.specs.Words.{ahead}
use Rattle.words.proofs.Items.{ahead-few}
use Rattle.words.proofs.cursor.Words.total.Goals as goal

pub overflow_add-result : goal.overflow_add-result
overflow_add-result c =
    let many : c.map_or.result ≡ length (ahead c.args.self.now.left) = search rules in
    omega (arith, ahead-few c.args.self.now)
