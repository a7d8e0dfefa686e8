-- A front over an index meets the laws of an index, which the trait's member cites. Assumes nothing.
use Rattle.std.specs.Prelude.{◌≡◌, ℕ, Bool, true, false, cond, List, ◌++◌, length, is_some, Option}
use Rattle.std.proofs.Common.{ap, arith, length-append}
use Rattle.std.proofs.Math.Path.{fun_ext}
use Rattle.std.proofs.lemmas.Grind.{common_steps}
use Rattle.keyed.proofs.Counts.{others, same_length, listed-append, apart_append, listed-others, apart_others}
use Rattle.keyed.specs.Meaning.{Names, Kept, kept, listed, NoRepeats, Finite, IndexLaws}
use Rattle.idents.specs.declared.ident.Ident.{Ident}
use Rattle.idents.specs.Idents.{same_ident, proper_ident, same_is, ident_laws}
use Rattle.front.specs.Fronts.{low, low_keys, frontal, filled, front_names, kept_below, front_room, Clear}
use Rattle.front.specs.Lows.{listed-low, low-apart, low_same}

same_kept : (m n : Kept Ident) → ((i : Ident) → m.has i ≡ n.has i) → m.count ≡ n.count → m ≡ n
same_kept m n has count j = record { has = fun_ext has j; count = count j }

-- the front keeps none that no index may hold
pub frontal-proper : (i : Ident) → proper_ident i ≡ false → frontal i ≡ false
frontal-proper i bad = grind (arith, common_steps)

-- what the front keeps is the identifier of its order
pub low-is : (i : Ident) → frontal i ≡ true → low i.order ≡ i
low-is i t = grind (arith, common_steps)

module _ (orders : List (Option ℕ)) (m : Names Ident ℕ) (clear : Clear m) where
  -- what lies below is what was there
  pub below_is : kept_below (kept (front_names orders m)) ≡ kept m
  below_is =
      let own = low_same (λ o. is_some ((front_names orders m).find (low o))) (filled orders) 4096 (λ o lt. grind (arith, common_steps)) in
      same_kept _ _ (λ i. grind (arith, common_steps, clear i)) (grind (arith, common_steps))

  -- the front's own and those below, all told
  pub front-finite : Finite same_ident proper_ident (kept m) → Finite same_ident proper_ident (kept (front_names orders m))
  front-finite fin =
      let lows = low_keys (filled orders) 4096 in
      record {
        keys = lows ++ fin.keys;
        apart = apart_append (ident_laws 0) lows fin.keys (low-apart (filled orders) 4096) fin.apart (λ k e. grind (arith, common_steps, listed-low (filled orders) 4096 k, clear k, fin.exact k));
        many = grind (arith, common_steps, length-append);
        exact = λ i. grind (arith, common_steps, listed-low (filled orders) 4096 i, clear i, fin.exact i, listed-append (ident_laws 0) i lows fin.keys);
        fit = λ i bad. grind (arith, common_steps, fin.fit i);
      }

-- of a finite set of identifiers, those that lie below
pub below_finite : (m : Kept Ident) → Finite same_ident proper_ident m → Finite same_ident proper_ident (kept_below m)
below_finite m fin =
    let law = ident_laws 0 in
    let h : ℕ → Bool = λ o. m.has (low o) in
    let lows = low_keys h 4096 in
    let highs = others frontal fin.keys in
    let fair : (a b : Ident) → same_ident a b ≡ true → frontal a ≡ frontal b = λ a b e. ap frontal (same_is a b e) in
    let high : (i : Ident) → listed same_ident i highs ≡ cond (frontal i) false (listed same_ident i fin.keys) = λ i. listed-others law frontal fair i fin.keys in
    let apart : NoRepeats same_ident highs = apart_others law frontal fair fin.keys fin.apart in
    let told : length (lows ++ highs) ≡ length fin.keys =
    same_length law (lows ++ highs) fin.keys
    (apart_append law lows highs (low-apart h 4096) apart (λ k e. grind (arith, common_steps, high k, listed-low h 4096 k)))
    fin.apart (λ i. grind (arith, common_steps, low-is i, high i, listed-low h 4096 i, fin.exact i, listed-append law i lows highs)) in
    record {
      keys = highs;
      apart = apart;
      many = grind (arith, common_steps, length-append);
      exact = λ i. grind (arith, common_steps, high i, fin.exact i);
      fit = λ i bad. grind (arith, common_steps, fin.fit i);
    }

-- a front over an index is an index
pub front_laws : {Self Below : Type 0} {means : Below → Names Ident ℕ} {capacity : ℕ → ℕ} {roomy : ℕ → Kept Ident → Ident → Bool} {sound : Below → Type 0} → IndexLaws same_ident proper_ident means capacity roomy sound → (orders : Self → List (Option ℕ)) (below : Self → Below) → IndexLaws same_ident proper_ident (λ s. front_names (orders s) (means (below s))) capacity (front_room roomy) (λ s. sound (below s) × Clear (means (below s)))
front_laws {means = means} {roomy = roomy} laws orders below = record {
  counted = λ s ok. front-finite (orders s) (means (below s)) ok.1 (laws.counted (below s) ok.0);
  held_has_room = λ size m i fin h. grind (arith, common_steps, laws.held_has_room size (kept_below m) i (below_finite m fin));
  spare_has_room = λ size m i fin fits few. grind (arith, common_steps, laws.spare_has_room size (kept_below m) i (below_finite m fin));
  improper_no_room = λ size m i fin bad. grind (arith, common_steps, laws.improper_no_room size (kept_below m) i (below_finite m fin));
}
