use Rattle.vpg_meaning.proofs.Spelled.{requirements_are_well_named}
use Rattle.vpg_meaning.proofs.laws.requirements_are_well_named.Goals as goal

pub returns : goal.returns
returns c = requirements_are_well_named
