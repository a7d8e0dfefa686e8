-- Numbers as keys: equal numbers are one key, and a number is the word that is mixed. Assumes nothing.
use Rattle.std.proofs.Common.{sym, ap, ◌∙◌}
use Rattle.std.specs.Prelude.{ℕ, nat_eq, refl}
use Rattle.std.proofs.lemmas.Bool.{eqb-true, eq-eqb}
use Rattle.keys.specs.Keys.{Lawful}
use Rattle.keys.specs.Mixing.{mixed}

pub number_laws : (seed : ℕ) → Lawful nat_eq (mixed seed)
number_laws seed = record {
  self = λ x. eq-eqb x x refl;
  back = λ x y e. eq-eqb y x (sym (eqb-true x y e));
  on = λ x y z e f. eq-eqb x z (eqb-true x y e ∙ eqb-true y z f);
  coded = λ x y e. ap (mixed seed) (eqb-true x y e);
}
