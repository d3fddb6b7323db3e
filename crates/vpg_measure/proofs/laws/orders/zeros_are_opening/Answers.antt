use Rattle.vpg_measure.proofs.OrderLemmas.{zeros_open}
use Rattle.vpg_measure.proofs.laws.orders.zeros_are_opening.Goals as goal

pub returns : goal.returns
returns c = zeros_open
