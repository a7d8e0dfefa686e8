-- When two identifiers are the same, which an index takes, and how they are hashed. Assumes nothing.
use Rattle.std.specs.Prelude.{◌≡◌, ℕ, ◌+◌, ◌*◌, ◌%◌, ◌^◌, Bool, true, ◌&&◌, Some, None, Option, ◌==◌, nat_lt, refl}
use Rattle.std.specs.Option.{option_eq}
use Rattle.std.proofs.Common.{ap, ◌∙◌}
use Rattle.std.proofs.lemmas.Bool.{eqb-true, eq-eqb, and_parts, and_from, false≢true}
use Rattle.keys.specs.Keys.{Lawful}
use Rattle.keys.specs.Mixing.{mixed}
use Rattle.idents.specs.declared.ident.Ident.{Ident}

-- the namespaces are both none or one number, and the orders are equal
abbrev pub same_ident : Ident → Ident → Bool
same_ident a b = option_eq ◌==◌ a.namespace b.namespace && a.order == b.order

abbrev pub in_range : Option ℕ → Bool
in_range None = true
in_range (Some n) = nat_lt n 16777216

-- an index takes an identifier whose namespace is none, or a number below 16,777,216
abbrev pub proper_ident : Ident → Bool
proper_ident i = in_range i.namespace

abbrev pub namespace_code : Option ℕ → ℕ
namespace_code None = 0
namespace_code (Some n) = n + 1

-- the word of an identifier: the order in its low half, the namespace in its high one
abbrev pub ident_word : Ident → ℕ
ident_word i = (i.order + (namespace_code i.namespace * 4294967296) % 2 ^ 64) % 2 ^ 64

-- the whole word is mixed under the seed
abbrev pub ident_code : ℕ → Ident → ℕ
ident_code seed i = mixed seed (ident_word i)

same_namespace-is : (a b : Option ℕ) → option_eq ◌==◌ a b ≡ true → a ≡ b
same_namespace-is None None e = refl
same_namespace-is None (Some b) e = absurd (false≢true e)
same_namespace-is (Some a) None e = absurd (false≢true e)
same_namespace-is (Some a) (Some b) e = ap (λ n. Some n) (eqb-true a b e)

same_namespace-self : (a : Option ℕ) → option_eq ◌==◌ a a ≡ true
same_namespace-self None = refl
same_namespace-self (Some a) = eq-eqb a a refl

-- the same identifier is the same value
pub same_is : (a b : Ident) → same_ident a b ≡ true → a ≡ b
same_is a b e =
    let parts = and_parts (option_eq ◌==◌ a.namespace b.namespace) (a.order == b.order) e in
    made a.namespace b.namespace a.order b.order (same_namespace-is _ _ parts.0) (eqb-true _ _ parts.1)
  where
    of : Option ℕ → ℕ → Ident
    of s o = record { namespace = s; order = o }

    made : (s t : Option ℕ) (m n : ℕ) → s ≡ t → m ≡ n → of s m ≡ of t n
    made s t m n p q = ap (λ x. of x m) p ∙ ap (of t) q

pub same_self : (a : Ident) → same_ident a a ≡ true
same_self a = and_from _ _ (same_namespace-self a.namespace) (eq-eqb a.order a.order refl)

pub ident_laws : (seed : ℕ) → Lawful same_ident (ident_code seed)
ident_laws seed = record {
  self = same_self;
  back = λ x y e. rw (same_is x y e) (same_self y);
  on = λ x y z e f. rw (same_is x y e) f;
  coded = λ x y e. ap (ident_code seed) (same_is x y e);
}
