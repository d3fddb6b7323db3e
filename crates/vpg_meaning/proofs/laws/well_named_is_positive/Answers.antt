use Rattle.vpg_meaning.proofs.Naming.{well_named_is_positive}
use Rattle.vpg_meaning.proofs.laws.well_named_is_positive.Goals as goal

pub returns : goal.returns
returns c = well_named_is_positive
