use Rattle.std.proofs.Common.{ap}
use Rattle.vpg_system.specs.SystemText.{Transition}
use Rattle.vpg_system_draw.proofs.marks.target_at.Goals as goal

pub returns : goal.returns
returns c = ap (λ (t : Transition). t.target) c.transition_at.ensures.value
