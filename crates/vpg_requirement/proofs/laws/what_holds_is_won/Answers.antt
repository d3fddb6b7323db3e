use Rattle.vpg_requirement.proofs.Won.{what_holds_is_won}
use Rattle.vpg_requirement.proofs.laws.what_holds_is_won.Goals as goal

pub returns : goal.returns
returns c = what_holds_is_won
