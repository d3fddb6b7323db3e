use Rattle.vpg_meaning.proofs.Spelled.{requirements_mean_what_is_written}
use Rattle.vpg_meaning.proofs.laws.requirements_mean_what_is_written.Goals as goal

pub returns : goal.returns
returns c = requirements_mean_what_is_written
