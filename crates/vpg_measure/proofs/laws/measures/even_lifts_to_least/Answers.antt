use Rattle.vpg_hope.proofs.Edges.{edges_inside}
use Rattle.vpg_measure.proofs.MeasureLifts.{even_lift}
use Rattle.vpg_measure.proofs.laws.measures.even_lifts_to_least.Goals as goal

pub returns : goal.returns
returns c = λ shape game table v m closed. even_lift shape game table v m (edges_inside game closed)
