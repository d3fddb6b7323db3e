use Rattle.vpg_why.specs.declared.question.Aim.TheVariants as aims
use Rattle.vpg_why.specs.Explained.{choices}
use Rattle.vpg_winners.proofs.gathering.findings.Goals as goal

pub returns-in-None : goal.returns-in-None
returns-in-None c =
    let order = c.args.order.now in
    c.no_findings.ensures order.game order.diagram (aims.Won c.args.which c.args.vertex) (choices order.decisions)

pub returns-in-Ok : goal.returns-in-Ok
returns-in-Ok c =
    c.in-Ok.ensures.findings (aims.Won c.args.which c.args.vertex) (rw c.in-Some-2.is at c.in_ok-met.ensures.met)

pub returns-in-Err-Full : goal.returns-in-Err-Full
returns-in-Err-Full c =
    let order = c.args.order.now in
    c.no_findings-in-Err-Full.ensures order.game order.diagram (aims.Won c.args.which c.args.vertex) (choices order.decisions)

pub returns-in-None-2 : goal.returns-in-None-2
returns-in-None-2 c =
    let order = c.args.order.now in
    c.no_findings-in-None-2.ensures order.game order.diagram (aims.Won c.args.which c.args.vertex) (choices order.decisions)
