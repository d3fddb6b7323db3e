use Rattle.vpg_system_draw.proofs.Numbered.{transition_is, is_transition}
use Rattle.vpg_system_draw.proofs.transitions.transition_at.Goals as goal

pub returns-clause-value : goal.returns-clause-value
returns-clause-value c = transition_is c.transitions-transitions.result.now c.args.system.now c.args.at c.index-transitions-at.result c.transitions-transitions.ensures.value c.requires c.index-transitions-at.is

pub returns-clause-is : goal.returns-clause-is
returns-clause-is c = is_transition c.transitions-transitions.result.now c.args.system.now c.args.at c.index-transitions-at.result c.transitions-transitions.ensures.value c.requires c.index-transitions-at.is c.transitions-transitions.ensures.system
