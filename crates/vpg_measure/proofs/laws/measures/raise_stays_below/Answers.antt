use Rattle.vpg_hope.proofs.Edges.{edges_inside}
use Rattle.vpg_measure.proofs.MeasureLifts.{lift_below_all}
use Rattle.vpg_measure.proofs.laws.measures.raise_stays_below.Goals as goal

pub returns : goal.returns
returns c = λ shape game seen v m closed. lift_below_all shape game seen v m (edges_inside game closed)
