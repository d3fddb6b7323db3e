use Rattle.std.proofs.Common.{sym, subst}
use Rattle.vpg_measure.specs.Orders.{IsSettledHarvest}
use Rattle.vpg_measure.proofs.harvest.Harvest.noted.Goals as goal

pub invariant_of-noted : goal.invariant_of-noted
invariant_of-noted c = record {
  harvest = c.noted.invariant.harvest;
  noted = λ _. subst IsSettledHarvest (sym c.noted.view_is) c.requires;
}
