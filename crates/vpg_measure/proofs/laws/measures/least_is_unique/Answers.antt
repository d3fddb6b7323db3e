use Rattle.vpg_measure.proofs.MeasureLifts.{least_unique}
use Rattle.vpg_measure.proofs.laws.measures.least_is_unique.Goals as goal

pub returns : goal.returns
returns c = least_unique
