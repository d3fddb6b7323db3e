use Rattle.vpg_requirement.proofs.Constructed.{construction_is_built}
use Rattle.vpg_requirement.proofs.laws.construction_is_built.Goals as goal

pub returns : goal.returns
returns c = construction_is_built
