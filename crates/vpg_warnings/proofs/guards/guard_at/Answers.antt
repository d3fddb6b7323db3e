use Rattle.vpg_warnings.proofs.Refuted.{guard_below}
use Rattle.vpg_warnings.proofs.guards.guard_at.Goals as goal

pub returns-clause-below : goal.returns-clause-below
returns-clause-below c = guard_below c.transitions-transitions.result.now c.args.system.now c.args.at c.index-transitions-at.result c.transitions-transitions.ensures.value c.requires c.index-transitions-at.is c.transitions-transitions.ensures.system
