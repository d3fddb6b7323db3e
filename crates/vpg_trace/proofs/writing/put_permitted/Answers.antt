use Rattle.std.proofs.Common.{refl}
use Rattle.vpg_trace.specs.Texts.{permitted_text}
use Rattle.vpg_trace.proofs.Grown.{grown_by}
use Rattle.vpg_trace.proofs.writing.put_permitted.Goals as goal

pub loop-action-preserved : goal.loop-action-preserved
loop-action-preserved c =
    grown_by (permitted_text c.args.actions.now c.args.source.now.sets.items c.args.set) _ c.loop-action.action c.args.out.now.items c.loop-action.out.items c.put_action_if.new.out.items refl
    c.loop-action.invariant (rw c.is_in-is_permitted.ensures at c.in_ok-put_action_if.ensures)
