-- Precedence is a total order up to build metadata. Assumes nothing.
use Rattle.std.proofs.Common.{◌≡◌, ℕ, List, [], ◌∷◌, Ordering, Less, Equal, Greater, nat_cmp, sym, refl, ap, ◌∙◌, subst}
use Rattle.std.specs.Cmp.{IsTotalOrder}
use Rattle.std.specs.Ordering.{ordering_then, on, then_cmp}
use Rattle.std.proofs.lemmas.Cmp.{nat_cmp_total, nat_list_cmp_total, lists_total, on_total, then_total, tied_itself}
use Rattle.version.specs.Grammar.{Identifier, numeric, alphanumeric, Semver}
use Rattle.version.specs.Law.{Orders}
use Rattle.version.proofs.Orders.{then_equal, same_values, same_lists}
use Rattle.version.proofs.Ranked.{by_rank}
use Rattle.version.specs.Precedence.{by_value, by_identifier, by_identifiers, by_pre_release, by_precedence}

-- ---- identifiers: first whether they are texts, then the number, then the text
then_itself : (o : Ordering) → ordering_then o Equal ≡ o
then_itself Less = refl
then_itself Equal = refl
then_itself Greater = refl

kind : Identifier → ℕ × ℕ × List ℕ
kind (numeric n) = (0, n, [])
kind (alphanumeric t) = (1, 0, t)

kinds : (x y : Identifier) → by_rank (kind x) (kind y) ≡ by_identifier x y
unfolding kind
kinds (numeric m) (numeric n) = then_itself (by_value m n)
kinds (numeric m) (alphanumeric u) = refl
kinds (alphanumeric t) (numeric n) = refl
kinds (alphanumeric t) (alphanumeric u) = refl

ranks : IsTotalOrder by_rank
ranks = then_total (on_total (λ k. k.0) nat_cmp_total) (then_total (on_total (λ k. k.1) nat_cmp_total) (on_total (λ k. k.2) nat_list_cmp_total))

identifiers : IsTotalOrder by_identifier
identifiers = subst IsTotalOrder (λ i x y. kinds x y i) (on_total kind ranks)

identifiers_same : (x y : Identifier) → by_identifier x y ≡ Equal → x ≡ y
identifiers_same (numeric m) (numeric n) h = ap numeric (same_values m n h)
identifiers_same (numeric m) (alphanumeric u) h = cc
identifiers_same (alphanumeric t) (numeric n) h = cc
identifiers_same (alphanumeric t) (alphanumeric u) h = ap alphanumeric (same_lists by_value same_values t u h)

-- ---- pre-releases: no identifiers come last
late : List Identifier → ℕ
late [] = 1
late (x ∷ xs) = 0

by_late : List Identifier → List Identifier → Ordering
by_late = then_cmp (on late nat_cmp) by_identifiers

lates : (xs ys : List Identifier) → by_late xs ys ≡ by_pre_release xs ys
unfolding late by_late
lates [] [] = refl
lates [] (y ∷ ys) = refl
lates (x ∷ xs) [] = refl
lates (x ∷ xs) (y ∷ ys) = refl

pre : IsTotalOrder by_pre_release
unfolding late by_late
pre = subst IsTotalOrder (λ i xs ys. lates xs ys i) (then_total (on_total late nat_cmp_total) (lists_total identifiers))

pre_same : (xs ys : List Identifier) → by_pre_release xs ys ≡ Equal → xs ≡ ys
pre_same [] [] h = refl
pre_same [] (y ∷ ys) h = cc
pre_same (x ∷ xs) [] h = cc
pre_same (x ∷ xs) (y ∷ ys) h = same_lists by_identifier identifiers_same (x ∷ xs) (y ∷ ys) h

-- ---- versions
whole : IsTotalOrder by_precedence
unfolding by_precedence
whole = then_total (on_total (λ v. v.major) nat_cmp_total) (then_total (on_total (λ v. v.minor) nat_cmp_total) (then_total (on_total (λ v. v.patch) nat_cmp_total) (on_total (λ v. v.pre) pre)))

whole_same : (v w : Semver) → by_precedence v w ≡ Equal → (v.major ≡ w.major) × (v.minor ≡ w.minor) × (v.patch ≡ w.patch) × (v.pre ≡ w.pre)
unfolding by_precedence
whole_same v w h =
    let a = then_equal (by_value v.major w.major) _ h in
    let b = then_equal (by_value v.minor w.minor) _ a.1 in
    let c = then_equal (by_value v.patch w.patch) _ b.1 in
    (same_values _ _ a.0, same_values _ _ b.0, same_values _ _ c.0, pre_same v.pre w.pre c.1)

whole-equal : (v w : Semver) → v.major ≡ w.major → v.minor ≡ w.minor → v.patch ≡ w.patch → v.pre ≡ w.pre → by_precedence v w ≡ Equal
unfolding by_precedence
whole-equal v w a b c d =
    (λ i. ordering_then (by_value v.major (sym a i)) (ordering_then (by_value v.minor (sym b i)) (ordering_then (by_value v.patch (sym c i)) (by_pre_release v.pre (sym d i))))) ∙ tied_itself whole v

pub orders : Orders
orders = record { turned = λ v w. whole.antisymm w v; chained = whole.trans; same = whole_same; equal = whole-equal }
