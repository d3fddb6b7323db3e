use Rattle.vpg_meaning.proofs.Substitution.{substitution_is_sound}
use Rattle.vpg_meaning.proofs.laws.substitution_is_sound.Goals as goal

pub returns : goal.returns
returns c = substitution_is_sound
