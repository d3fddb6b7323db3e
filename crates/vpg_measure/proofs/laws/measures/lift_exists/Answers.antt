use Rattle.vpg_hope.proofs.Edges.{edges_inside}
use Rattle.vpg_measure.proofs.MeasureLifts.{lift_exists}
use Rattle.vpg_measure.proofs.laws.measures.lift_exists.Goals as goal

pub returns : goal.returns
returns c = λ shape game table v closed. lift_exists shape game table v (edges_inside game closed)
