use Rattle.vpg_requirement.proofs.Ranked.{priorities_are_right}
use Rattle.vpg_requirement.proofs.laws.priorities_are_right.Goals as goal

pub returns : goal.returns
returns c = priorities_are_right
