use Rattle.vpg_system.proofs.Written.{system_again}
use Rattle.vpg_system.proofs.laws.writings_spell_the_system.Goals as goal

pub returns : goal.returns
returns c = system_again
