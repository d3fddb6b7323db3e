use Rattle.std.proofs.Common.{Contains, false, refl, sym, ◌∙◌, subst}
use Rattle.std.proofs.lemmas.Bool.{both_ways}
use Rattle.vpg_diagram.specs.Clauses.{MeetsCount}
use Rattle.vpg_diagram.proofs.Lists.{All-contained, All-take_step, All-taken_all}
use Rattle.vpg_diagram.proofs.product.meets_counts.Goals as goal

pub loop-count-preserved : goal.loop-count-preserved
loop-count-preserved c =
    All-take_step (MeetsCount c.args.features.now) c.args.counts.now c.loop-count.count-index c.count-item.result c.loop-count-test.true c.loop-count.invariant
    (subst (MeetsCount c.args.features.now) c.count-item.is (c.meets_count.ensures.0 c.if-not-meets_count.false))

pub returns-then-not-meets_count : goal.returns-then-not-meets_count
returns-then-not-meets_count c =
    let within : Contains c.args.counts.now c.count-item.result = (c.loop-count.count-index, c.loop-count-test.true, sym c.count-item.is) in (
      λ t. absurd (both_ways false refl t),
      λ all. sym c.if-not-meets_count.true ∙ c.meets_count.ensures.1 (All-contained (MeetsCount c.args.features.now) c.args.counts.now c.count-item.result all within),
    )

pub returns : goal.returns
returns c =
    (λ t. All-taken_all (MeetsCount c.args.features.now) c.args.counts.now c.loop-count.count-index c.loop-count-test.false c.loop-count.invariant, λ all. refl)
