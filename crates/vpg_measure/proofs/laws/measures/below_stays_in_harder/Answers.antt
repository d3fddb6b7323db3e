use Rattle.vpg_measure.proofs.Easier.{below_harder}
use Rattle.vpg_measure.proofs.laws.measures.below_stays_in_harder.Goals as goal

pub returns : goal.returns
returns c = below_harder
