use Rattle.vpg_hope.proofs.Edges.{edges_inside}
use Rattle.vpg_measure.proofs.MeasureLifts.{odd_lift}
use Rattle.vpg_measure.proofs.laws.measures.odd_lifts_to_greatest.Goals as goal

pub returns : goal.returns
returns c = λ shape game table v m closed. odd_lift shape game table v m (edges_inside game closed)
