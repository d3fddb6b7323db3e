use Rattle.vpg_why.specs.Explained.{choices}
use Rattle.vpg_winners.proofs.gathering.search_findings.Goals as goal

pub learn_open-requires-clause-spared : goal.learn_open-requires-clause-spared
learn_open-requires-clause-spared c =
    let order = c.args.order.now in
    c.none_spared-spared.ensures order.game order.diagram c.args.vertex (choices order.decisions)
