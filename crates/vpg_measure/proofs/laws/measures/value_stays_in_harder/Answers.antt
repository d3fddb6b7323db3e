use Rattle.vpg_measure.proofs.Easier.{value_below_harder}
use Rattle.vpg_measure.proofs.laws.measures.value_stays_in_harder.Goals as goal

pub returns : goal.returns
returns c = value_below_harder
