use Rattle.vpg_promises.proofs.Example.{small_is_model}
use Rattle.vpg_promises.proofs.laws.small_is_model.Goals as goal

pub returns : goal.returns
returns c = small_is_model
