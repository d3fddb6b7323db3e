use Rattle.std.proofs.Common.{refl}
use Rattle.vpg_draw.proofs.Growing.{grown_by}
use Rattle.vpg_system_draw.specs.SystemDrawing.{states_text}
use Rattle.vpg_system_draw.proofs.picture.states.Goals as goal

pub loop-s-preserved : goal.loop-s-preserved
loop-s-preserved c =
    grown_by (states_text c.first-first.result c.args.reached.now c.args.marks.now) _ c.loop-s.s c.args.out.now.items c.loop-s.out.items c.state.new.out.items refl c.loop-s.invariant c.in_ok-state.ensures
