use Rattle.std.proofs.Common.{subst}
use Rattle.vpg_measure.specs.Orders.{IsSettledHarvest}
use Rattle.vpg_measure.proofs.harvest.Harvest.is_noted.Goals as goal

pub returns : goal.returns
returns c = λ noted. subst IsSettledHarvest c.self.view_is (c.self.invariant.noted noted)
