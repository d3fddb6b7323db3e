use Rattle.vpg_measure.proofs.Easier.{progress_easier}
use Rattle.vpg_measure.proofs.laws.measures.harder_progress_is_easier.Goals as goal

pub returns : goal.returns
returns c = progress_easier
