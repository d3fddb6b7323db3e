use Rattle.vpg_requirement.proofs.Duals.{what_fails_is_lost}
use Rattle.vpg_requirement.proofs.laws.what_fails_is_lost.Goals as goal

pub returns : goal.returns
returns c = what_fails_is_lost
