use Rattle.vpg_assured.proofs.Traced.{traced_steps_are_there}
use Rattle.vpg_assured.proofs.laws.traced_steps_are_there.Goals as goal

pub returns : goal.returns
returns c = traced_steps_are_there
