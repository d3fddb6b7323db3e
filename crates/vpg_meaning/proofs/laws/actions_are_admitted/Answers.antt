use Rattle.vpg_meaning.proofs.Labels.{actions_are_admitted}
use Rattle.vpg_meaning.proofs.laws.actions_are_admitted.Goals as goal

pub returns : goal.returns
returns c = actions_are_admitted
