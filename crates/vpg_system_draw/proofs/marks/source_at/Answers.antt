use Rattle.std.proofs.Common.{ap}
use Rattle.vpg_system.specs.SystemText.{Transition}
use Rattle.vpg_system_draw.proofs.marks.source_at.Goals as goal

pub returns : goal.returns
returns c = ap (λ (t : Transition). t.source) c.transition_at.ensures.value
