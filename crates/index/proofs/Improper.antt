-- A proper identifier entered in a table. Assumes nothing.
use Rattle.std.proofs.Common.{◌≡◌, ℕ, Bool, true, Option, Result, ap, arith}
use Rattle.std.proofs.lemmas.Grind.{common_steps}
use Rattle.keyed.specs.Meaning.{Names, Entered}
use Rattle.idents.specs.declared.ident.Ident.{Ident}
use Rattle.idents.specs.Idents.{same_ident, proper_ident, same_is}
use Rattle.index.specs.TermTables.{NoneImproper}

-- still no improper identifier is found
pub none_after : {E : Type 0} {room : Bool} {i : Ident} {n : ℕ} {refusal : E} {before after : Names Ident ℕ} {r : Result (Option ℕ) E} → proper_ident i ≡ true → Entered same_ident room i n refusal before after r → NoneImproper before → NoneImproper after
none_after fits did none j bad =
    let found = ap (λ (m : Names Ident ℕ). m.find j) did.leaves in
    let was = none j bad in
    grind (arith, common_steps, same_is)
