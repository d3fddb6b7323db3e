use Rattle.vpg_system.proofs.Systems.{spelled_is_system}
use Rattle.vpg_system.proofs.laws.spelled_are_systems.Goals as goal

pub returns : goal.returns
returns c = spelled_is_system
