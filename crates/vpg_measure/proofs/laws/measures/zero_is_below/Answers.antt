use Rattle.vpg_measure.proofs.MeasureLifts.{zero_below}
use Rattle.vpg_measure.proofs.laws.measures.zero_is_below.Goals as goal

pub returns : goal.returns
returns c = zero_below
