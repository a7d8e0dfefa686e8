-- Identifiers and their texts. Assumes nothing.
use Rattle.std.proofs.Common.{◌≡◌, ℕ, ◌<◌, Bool, true, not, eqb, ltb, List, [], ◌∷◌, ◌++◌, map, length, refl, ◌∙◌, arith}
use Rattle.std.proofs.lemmas.Bool.{and_parts, and_from, or_right}
use Rattle.std.proofs.lemmas.List.Folds.{list_all-append, list_all-map}
use Rattle.std.proofs.lemmas.Bool.Decides.{nat_tests}
use Rattle.version.specs.Grammar.{digit, character, every, decimal, Identifier, numeric, alphanumeric, spelled, wordy, proper, tagged, dotted}
use Rattle.version.specs.Reader.{numeral, released, identifier_of}
use Rattle.version.proofs.Values.{numeral-digits}
use Rattle.version.proofs.Numerals.{decimal-numeral, decimal-value, decimal-of}
use Rattle.version.proofs.Joins.{clear}

pub every-weaker : {X : Type 0} (p q : X → Bool) → ((x : X) → p x ≡ true → q x ≡ true) → (xs : List X) → every p xs ≡ true → every q xs ≡ true
every-weaker p q f [] h = refl
every-weaker p q f (x ∷ xs) h =
    let k = and_parts (p x) (every p xs) h in
    and_from (q x) (every q xs) (f x k.0) (every-weaker p q f xs k.1)

pub every_append : {X : Type 0} (p : X → Bool) (xs ys : List X) → every p xs ≡ true → every p ys ≡ true → every p (xs ++ ys) ≡ true
every_append p xs ys h k = list_all-append p xs ys ∙ and_from (every p xs) (every p ys) h k

pub every_map : {X Y : Type 0} (p : Y → Bool) (q : X → Bool) (f : X → Y) → ((x : X) → q x ≡ true → p (f x) ≡ true) → (xs : List X) → every q xs ≡ true → every p (map f xs) ≡ true
every_map p q f g xs h = list_all-map p f xs ∙ every-weaker q (λ x. p (f x)) g xs h

-- a map that leaves each element as it is
pub map_same : {X Y : Type 0} (q : X → Bool) (f : X → Y) (g : Y → X) → ((x : X) → q x ≡ true → g (f x) ≡ x) → (xs : List X) → every q xs ≡ true → map g (map f xs) ≡ xs
map_same q f g h [] k = refl
map_same q f g h (x ∷ xs) k =
    let p = and_parts (q x) (every q xs) k in
    λ i. h x p.0 i ∷ map_same q f g h xs p.1 i

-- ---- bytes
pub digit-character : (b : ℕ) → digit b ≡ true → character b ≡ true
digit-character b h = grind (arith, nat_tests)

pub character-other : (m : ℕ) → m < 48 → (m ≡ 45 → ⊥) → (b : ℕ) → character b ≡ true → not (eqb b m) ≡ true
character-other m l n b h = grind (arith, nat_tests)

pub digit-other : (m : ℕ) → m < 48 → (b : ℕ) → digit b ≡ true → not (eqb b m) ≡ true
digit-other m l b h = grind (arith, nat_tests)

-- ---- one identifier
pub released-digits : (t : List ℕ) → released t ≡ true → every digit t ≡ true → numeral t ≡ true
released-digits t h d = grind (arith, nat_tests)

pub spelled-identifier : (t : List ℕ) → released t ≡ true → spelled (identifier_of t) ≡ t
spelled-identifier t h = let number = released-digits t h in let written = decimal-of t in grind (arith, nat_tests)

pub proper-identifier : (t : List ℕ) → released t ≡ true → proper (identifier_of t) ≡ true
proper-identifier t h = let number = numeral-digits t in grind (arith, nat_tests)

pub released-spelled : (i : Identifier) → proper i ≡ true → released (spelled i) ≡ true
released-spelled (numeric n) h = let number = decimal-numeral n in grind (arith, nat_tests)
released-spelled (alphanumeric t) h = or_right (numeral t) (wordy t) h

pub identifier_spelled : (i : Identifier) → proper i ≡ true → identifier_of (spelled i) ≡ i
identifier_spelled (numeric n) h =
    let digits = numeral-digits (decimal n) (decimal-numeral n) in let value = decimal-value n in grind (arith, nat_tests)
identifier_spelled (alphanumeric t) h = grind (arith, nat_tests)

pub decimal-digits : (n : ℕ) → every digit (decimal n) ≡ true
decimal-digits n = numeral-digits (decimal n) (decimal-numeral n)

pub spelled-characters : (i : Identifier) → proper i ≡ true → every character (spelled i) ≡ true
spelled-characters (numeric n) h = every-weaker digit character digit-character (decimal n) (decimal-digits n)
spelled-characters (alphanumeric t) h = (and_parts (every character t) (not (every digit t)) h).0

pub tagged-characters : (t : List ℕ) → tagged t ≡ true → every character t ≡ true
tagged-characters t h = (and_parts (ltb 0 (length t)) (every character t) h).1

-- ---- several
-- no field has a dot
pub characters_clear : (ts : List (List ℕ)) → every (every character) ts ≡ true → every (clear 46) ts ≡ true
characters_clear ts h = every-weaker (every character) (clear 46) (λ t k. every-weaker character (λ b. not (eqb b 46)) (character-other 46 (omega arith) (λ e. omega arith)) t k) ts h

-- no field, and no dot between fields, is `+`
pub dotted-clear : (ts : List (List ℕ)) → every (every character) ts ≡ true → clear 43 (dotted ts) ≡ true
dotted-clear [] h = refl
dotted-clear (t ∷ []) h = every-weaker character (λ b. not (eqb b 43)) (character-other 43 (omega arith) (λ e. omega arith)) t (and_parts (every character t) true h).0
dotted-clear (t ∷ u ∷ us) h =
    let p = and_parts (every character t) (every (every character) (u ∷ us)) h in
    every_append (λ b. not (eqb b 43)) t (46 ∷ dotted (u ∷ us)) (every-weaker character (λ b. not (eqb b 43)) (character-other 43 (omega arith) (λ e. omega arith)) t p.0) (dotted-clear (u ∷ us) p.1)
