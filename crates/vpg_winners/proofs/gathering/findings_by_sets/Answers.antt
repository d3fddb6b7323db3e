use Rattle.vpg_sides.specs.declared.which.Which.TheVariants.{Hopeful, Dual}
use Rattle.vpg_why.specs.declared.question.Aim.TheVariants as aims
use Rattle.vpg_why.specs.Explained.{choices}
use Rattle.vpg_winners.proofs.gathering.findings_by_sets.Goals as goal

pub returns-in-Ok-clause-won : goal.returns-in-Ok-clause-won
returns-in-Ok-clause-won c = c.in-Ok.ensures.won (aims.Won Hopeful c.args.vertex) c.requires.won

pub returns-in-Ok-clause-lost : goal.returns-in-Ok-clause-lost
returns-in-Ok-clause-lost c = c.in-Ok.ensures.lost (aims.Won Dual c.args.vertex) c.requires.lost

pub returns-in-Err-Full-clause-won : goal.returns-in-Err-Full-clause-won
returns-in-Err-Full-clause-won c =
    let order = c.args.order.now in
    c.no_findings.ensures order.game order.diagram (aims.Won Hopeful c.args.vertex) (choices order.decisions)

pub returns-in-Err-Full-clause-lost : goal.returns-in-Err-Full-clause-lost
returns-in-Err-Full-clause-lost c =
    let order = c.args.order.now in
    c.no_findings-in-Err-Full.ensures order.game order.diagram (aims.Won Dual c.args.vertex) (choices order.decisions)
