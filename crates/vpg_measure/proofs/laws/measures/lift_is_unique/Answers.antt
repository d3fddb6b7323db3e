use Rattle.vpg_measure.proofs.MeasureLifts.{lift_unique}
use Rattle.vpg_measure.proofs.laws.measures.lift_is_unique.Goals as goal

pub returns : goal.returns
returns c = lift_unique
