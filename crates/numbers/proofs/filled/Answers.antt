use Rattle.std.proofs.Common.{sym, ◌∙◌}
use Rattle.std.proofs.lemmas.List.{take_all}
use Rattle.std.proofs.lemmas.List.Sums.{fold_more}
use Rattle.keyed.specs.Tables.{table_size, table_means}
use Rattle.numbers.specs.Filled.{entered, entered_all}
use Rattle.numbers.proofs.filled.Goals as goal

pub loop-key-preserved : goal.loop-key-preserved
loop-key-preserved g c =
    let alike = g.K.Key.alike in
    let inv = c.loop-key.invariant in
    let s = c.new-table.result in
    let e = c.loop-key-item in
    let done = c.put.ensures in
    record {
      fixed = done.fixed ∙ inv.fixed;
      means = done.entered.leaves ∙ (λ j. entered alike (inv.fixed j) (inv.means j) (e.is j))
          ∙ sym (fold_more (entered alike (table_size s)) (table_means alike s) c.args.entries.now c.loop-key.key-index e.result c.loop-key-test.true);
      beyond = done.beyond ∙ inv.beyond;
      lent = done.lent ∙ inv.lent;
    }

pub returns : goal.returns
returns g c =
    let alike = g.K.Key.alike in
    let inv = c.loop-key.invariant in
    let s = c.new-table.result in
    let fresh = c.new-table.ensures in
    record {
      means = inv.means ∙ (λ j. entered_all alike (fresh.size j) (fresh.empty j) (take_all c.loop-key.key-index c.args.entries.now c.loop-key-test.false j));
      beyond = inv.beyond ∙ fresh.beyond;
      lent = inv.lent ∙ fresh.lent;
    }
