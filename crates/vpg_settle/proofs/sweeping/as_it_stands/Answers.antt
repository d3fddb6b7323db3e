use Rattle.std.proofs.Common.{sym, subst}
use Rattle.vpg_measure.specs.Orders.{IsSettledHarvest}
use Rattle.vpg_settle.specs.Sweeping.{IsSweptOrder, IsLeft}
use Rattle.vpg_settle.proofs.Repeated.{settled_sweeps, stands, stands_left}
use Rattle.vpg_settle.proofs.sweeping.as_it_stands.Goals as goal

pub noted-requires : goal.noted-requires
noted-requires c = stands c.args.order c.of_order-harvest.result c.of_order-harvest.ensures.order c.of_order-harvest.ensures.tables c.requires

pub returns-clause-swept : goal.returns-clause-swept
returns-clause-swept c = λ sweeps.
    subst (IsSweptOrder c.args.order sweeps) (sym c.noted.ensures)
    (settled_sweeps c.args.order c.of_order-harvest.result sweeps c.order-order.ensures.harvest c.of_order-harvest.ensures.order
    (stands c.args.order c.of_order-harvest.result c.of_order-harvest.ensures.order c.of_order-harvest.ensures.tables c.requires))

pub returns-clause-left : goal.returns-clause-left
returns-clause-left c = subst (IsLeft c.args.order) (sym c.noted.ensures) (stands_left c.args.order c.of_order-harvest.result c.of_order-harvest.ensures.order c.of_order-harvest.ensures.tables)

pub returns-clause-settled : goal.returns-clause-settled
returns-clause-settled c =
    subst IsSettledHarvest (sym c.noted.ensures)
    (stands c.args.order c.of_order-harvest.result c.of_order-harvest.ensures.order c.of_order-harvest.ensures.tables c.requires)
