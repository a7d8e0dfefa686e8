use Rattle.std.proofs.Common.{◌≡◌, ◌==◌, ◌∙◌, rules, tests}
use Rattle.std.proofs.lemmas.Iterator.{YieldsList-from_map_by}
use Rattle.std.proofs.lemmas.Iterator.Search.{cmp_from_yields_List}
use Rattle.std.proofs.lemmas.Iterator.Splits.{YieldsList-from_slice_split}
use Rattle.version.specs.Ranks.{rank, rank_of}
use Rattle.version.specs.Reader.{fields}
use Rattle.version.proofs.Ranked.{by_rank, of_all, cmp-rank}
use Rattle.version.proofs.order.by_identifiers.Goals as goal

pub returns : goal.returns
returns c =
    cmp_from_yields_List (λ x y. y ≡ x) _ by_rank _ c.cmp.ensures.ran
    (YieldsList-from_map_by _ rank rank_of (YieldsList-from_slice_split _ (λ b. b == 46) c.args.a.now (cc) (cc) (cc) (λ x b q k. search (rules, tests))) c.map-left.ensures.closure (λ x r q k. search rules))
    (λ it e. YieldsList-from_map_by _ rank rank_of (YieldsList-from_slice_split _ (λ b. b == 46) c.args.b.now (cc) (cc) (cc) (λ x b q k. search (rules, tests))) (cc) (λ x r q k. search rules))
    (λ x y. cmp-rank x y)
    ∙ of_all (fields c.args.a.now) (fields c.args.b.now) c.requires.0 c.requires.1
