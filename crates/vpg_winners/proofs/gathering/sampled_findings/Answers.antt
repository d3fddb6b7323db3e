use Rattle.vpg_sides.specs.declared.which.Which.TheVariants.{Hopeful, Dual}
use Rattle.vpg_why.specs.declared.question.Aim.TheVariants as aims
use Rattle.vpg_why.specs.Explained.{choices}
use Rattle.vpg_winners.proofs.gathering.sampled_findings.Goals as goal

pub returns-clause-won : goal.returns-clause-won
returns-clause-won c =
    let order = c.args.order.now in
    c.findings_by.ensures order.game order.diagram (aims.Won Hopeful c.args.vertex) (choices order.decisions)
    c.in_ok-won.ensures.won

pub returns-clause-lost : goal.returns-clause-lost
returns-clause-lost c =
    let order = c.args.order.now in
    c.findings_by-2.ensures order.game order.diagram (aims.Won Dual c.args.vertex) (choices order.decisions)
    c.in_ok-won.ensures.lost
