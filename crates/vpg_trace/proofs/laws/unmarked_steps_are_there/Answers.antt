use Rattle.vpg_trace.proofs.There.{unmarked_steps_are_there}
use Rattle.vpg_trace.proofs.laws.unmarked_steps_are_there.Goals as goal

pub returns : goal.returns
returns c = unmarked_steps_are_there
