use Rattle.std.proofs.Common.{refl}
use Rattle.version.specs.Examples.{Examples}
use Rattle.version.specs.Grammar.{written}
use Rattle.version.specs.Precedence.{by_precedence}
use Rattle.version.specs.Reader.{parsed}
use Rattle.version.proofs.Lawful.{orders}
use Rattle.version.proofs.order.precedence_stands.Goals as goal

examples : Examples
unfolding written by_precedence parsed
examples = record {
  is_written = refl;
  is_read = refl;
  largest = refl;
  too_large = refl;
  leading_zero = refl;
  fewer_fields = refl;
  number_first = refl;
  first_field = refl;
  one_more_field = refl;
  by_number = refl;
  by_letters = refl;
  release_last = refl;
  build_ignored = refl;
  candidate_old = refl;
  next_new = refl;
}

pub returns : goal.returns
returns c = record { orders = orders; examples = examples; release = c.is_new.ensures.told }
