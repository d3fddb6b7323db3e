use Rattle.vpg_hope.proofs.Edges.{edges_inside}
use Rattle.vpg_measure.proofs.MeasureLifts.{lift_monotone}
use Rattle.vpg_measure.proofs.laws.measures.lift_is_monotone.Goals as goal

pub returns : goal.returns
returns c = λ shape game low high v m n closed. lift_monotone shape game low high v m n (edges_inside game closed)
