use Rattle.vpg_sides.specs.declared.which.Which.TheVariants.{Hopeful, Dual}
use Rattle.vpg_why.specs.declared.question.Aim.TheVariants as aims
use Rattle.vpg_why.specs.Explained.{choices}
use Rattle.vpg_winners.proofs.gathering.both_findings.Goals as goal

pub returns-in-None-clause-won : goal.returns-in-None-clause-won
returns-in-None-clause-won c =
    let order = c.args.order.now in
    c.no_findings.ensures order.game order.diagram (aims.Won Hopeful c.args.vertex) (choices order.decisions)

pub returns-in-None-clause-lost : goal.returns-in-None-clause-lost
returns-in-None-clause-lost c =
    let order = c.args.order.now in
    c.no_findings-in-None.ensures order.game order.diagram (aims.Won Dual c.args.vertex) (choices order.decisions)
