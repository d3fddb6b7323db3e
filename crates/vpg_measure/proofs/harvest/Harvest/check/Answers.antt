use Rattle.std.proofs.Common.{subst}
use Rattle.vpg_measure.specs.Orders.{IsSettledHarvest}
use Rattle.vpg_measure.proofs.harvest.Harvest.check.Goals as goal

pub returns-then-self : goal.returns-then-self
returns-then-self c = (
  λ _. subst IsSettledHarvest c.self.view_is (c.self.invariant.noted c.if-self.true),
  λ _. c.if-self.true,
)
