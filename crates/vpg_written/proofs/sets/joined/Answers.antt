use Rattle.vpg_written.proofs.Values.{no_values}
use Rattle.vpg_written.proofs.sets.joined.Goals as goal

pub loop-action-init : goal.loop-action-init
loop-action-init c = no_values _ _ c.new-actions.ensures.items
