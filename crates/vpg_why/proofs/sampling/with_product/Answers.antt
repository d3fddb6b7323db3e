use Rattle.std.proofs.lemmas.Grind.{common_steps}
use Rattle.std.proofs.Common.{◌<◌, arith}
use Rattle.vpg_diagram.specs.FeatureDiagram.{feature_count}
use Rattle.vpg_why.specs.Explained.{choices}
use Rattle.vpg_why.proofs.Sampled.{one_more}
use Rattle.vpg_why.proofs.sampling.with_product.Goals as goal

pub loop-feature-preserved : goal.loop-feature-preserved
loop-feature-preserved c =
    let within : c.loop-feature.feature < feature_count c.args.order.now.diagram.lines = grind (arith, common_steps) in
    one_more c.args.order.now.diagram.lines (choices c.args.decisions.now) c.loop-feature.more.items c.push.new.self.items _ c.in_ok-push.ensures.items within c.loop-feature.invariant
