use Rattle.std.proofs.Common.{refl, arith}
use Rattle.vpg_written.proofs.Values.{no_values, one_more_value, full_set}
use Rattle.vpg_written.proofs.sets.full.Goals as goal

pub loop-action-init : goal.loop-action-init
loop-action-init c = no_values _ _ c.new-actions.ensures.items

pub loop-action-preserved : goal.loop-action-preserved
loop-action-preserved c = one_more_value _ _ _ _ _ c.loop-action.invariant refl c.in_ok-push.ensures.items

pub returns : goal.returns
returns c = full_set _ _ c.loop-action.actions.items (omega arith) c.loop-action.invariant
