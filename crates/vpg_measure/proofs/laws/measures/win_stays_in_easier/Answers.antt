use Rattle.vpg_measure.proofs.Easier.{wins_easier}
use Rattle.vpg_measure.proofs.laws.measures.win_stays_in_easier.Goals as goal

pub returns : goal.returns
returns c = wins_easier
