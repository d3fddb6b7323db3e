use Rattle.vpg_hope.proofs.Edges.{edges_inside}
use Rattle.vpg_measure.proofs.MeasureLifts.{progress_iff_no_rise}
use Rattle.vpg_measure.proofs.laws.measures.progress_is_unraised.Goals as goal

pub returns : goal.returns
returns c = λ shape game table closed. progress_iff_no_rise shape game table (edges_inside game closed)
