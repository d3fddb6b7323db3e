use Rattle.vpg_hope.proofs.Edges.{edges_inside}
use Rattle.vpg_measure.proofs.MeasureLifts.{lift_below}
use Rattle.vpg_measure.proofs.laws.measures.lift_stays_below.Goals as goal

pub returns : goal.returns
returns c = λ shape game table progress v m closed. lift_below shape game table progress v m (edges_inside game closed)
