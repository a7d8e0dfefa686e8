use Rattle.std.proofs.Common.{sym, arith}
use Rattle.words.specs.Words.{ahead}
use Rattle.pairs.specs.Names.{entries_read}
use Rattle.pairs.proofs.Entries.{none_ahead, names_counted}
use Rattle.pairs.proofs.listing.check_var_names.Goals as goal

pub returns-clause-value : goal.returns-clause-value
returns-clause-value c =
    let none = none_ahead c.rest_of_line.result c.loop-first.cursor.left c.rest_of_line.ensures (sym c.loop-first-test.ensures) in
    grind (arith, names_counted c.list_kind-form.result (entries_read c.in_ok-first.first.form c.list_kind-form.result c.args.words.number 0 (ahead c.args.words.left)))
