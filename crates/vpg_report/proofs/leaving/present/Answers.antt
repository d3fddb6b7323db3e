use Rattle.vpg_faults.specs.Refusals.{never_refused}
use Rattle.vpg_report.proofs.Left.{full_on, order_on}
use Rattle.vpg_report.proofs.leaving.present.Goals as goal

pub returns-in-Ok-clause-order : goal.returns-in-Ok-clause-order
returns-in-Ok-clause-order g c =
    order_on g.L.Terms.limit c.args.engine.now c.order.new.self.client 1 c.in-Ok.order g.L.Terms.game g.L.Terms.diagram c.in-Ok.ensures.accepted c.in-Ok.ensures.ours c.in-Ok.ensures.of

pub returns-in-Err-LogFull-clause-order : goal.returns-in-Err-LogFull-clause-order
returns-in-Err-LogFull-clause-order g c =
    full_on g.L.Terms.limit c.args.engine.now c.order.new.self.client 1 never_refused c.in-Err-LogFull.field-0 c.order.ensures.room c.in-Err-LogFull.ensures.fault c.in-Err-LogFull.field-0-is
