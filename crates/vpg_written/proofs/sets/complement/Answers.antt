use Rattle.std.proofs.Common.{not, sym, ap}
use Rattle.vpg_written.proofs.Values.{no_values, one_more_value}
use Rattle.vpg_written.proofs.sets.complement.Goals as goal

pub loop-action-init : goal.loop-action-init
loop-action-init c = no_values _ _ c.new-actions.ensures.items

pub loop-action-preserved : goal.loop-action-preserved
loop-action-preserved c = one_more_value _ _ _ _ _ c.loop-action.invariant (sym (ap not c.has.ensures)) c.in_ok-push.ensures.items
