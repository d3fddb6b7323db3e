use Rattle.vpg_sides.specs.declared.which.Which.TheVariants.{Hopeful, Dual}
use Rattle.vpg_why.specs.declared.question.Aim.TheVariants as aims
use Rattle.vpg_why.specs.Explained.{choices}
use Rattle.vpg_text_rows.proofs.changing.put_with.Goals as goal

pub foresee-found-requires-clause-won : goal.foresee-found-requires-clause-won
foresee-found-requires-clause-won c =
    c.no_findings-won.ensures c.args.order.now.game c.args.order.now.diagram (aims.Won Hopeful c.args.vertex) (choices c.args.order.now.decisions)

pub foresee-found-requires-clause-lost : goal.foresee-found-requires-clause-lost
foresee-found-requires-clause-lost c =
    c.no_findings-lost.ensures c.args.order.now.game c.args.order.now.diagram (aims.Won Dual c.args.vertex) (choices c.args.order.now.decisions)

pub foresee-found-requires-clause-spared : goal.foresee-found-requires-clause-spared
foresee-found-requires-clause-spared c =
    c.none_spared-spared.ensures c.args.order.now.game c.args.order.now.diagram c.args.vertex (choices c.args.order.now.decisions)
