use Rattle.vpg_system_draw.proofs.Numbered.{count_is}
use Rattle.vpg_system_draw.proofs.transitions.transition_count.Goals as goal

pub returns : goal.returns
returns c = count_is c.transitions.result.now c.args.system.now c.transitions.ensures.value
