use Rattle.vpg_measure.proofs.RaisedTables.{raised_from_order}
use Rattle.vpg_measure.proofs.laws.bounds.raised_from_order.Goals as goal

pub returns : goal.returns
returns c = raised_from_order
