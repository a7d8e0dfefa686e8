use Rattle.std.proofs.Common.{◌∙◌, sym, arith, rules}
use borrow.Author.Tests.{tests}
use Rattle.bitvec.proofs.Digits.{vec_spaces, vec_base}
use Rattle.bitvec.proofs.parse_bitvec.Goals as goal

pub returns-in-35 : goal.returns-in-35
returns-in-35 c = c.read.ensures ∙ sym (vec_base c.args.span.now 120 (omega arith) (omega arith) (omega arith))

pub returns-in-35-2 : goal.returns-in-35-2
returns-in-35-2 c = c.read-in-35-2.ensures ∙ sym (vec_base c.args.span.now 98 (omega arith) (omega arith) (omega arith))

pub returns-in_default : goal.returns-in_default
returns-in_default c = rw vec_spaces (search (rules, tests))
