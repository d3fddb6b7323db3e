use Rattle.std.proofs.Common.{subst}
use Rattle.vpg_measure.specs.Orders.{IsSettledOrder}
use Rattle.vpg_measure.proofs.order.Order.check.Goals as goal

pub returns-then-self : goal.returns-then-self
returns-then-self c = (
  λ _. subst IsSettledOrder c.self.view_is (c.self.invariant.noted c.if-self.true),
  λ _. c.if-self.true,
)
