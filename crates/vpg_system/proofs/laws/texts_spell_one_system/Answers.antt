use Rattle.vpg_system.proofs.TextComplete.{one_system}
use Rattle.vpg_system.proofs.laws.texts_spell_one_system.Goals as goal

pub returns : goal.returns
returns c = one_system
