use Rattle.std.proofs.Common.{◌≡◌, ◌++◌}
use Rattle.vpg_system_draw.specs.SystemDrawing.{states_text}
use Rattle.vpg_system_draw.proofs.picture.states.Given as goal

abbrev pub invariant-loop-s : goal.invariant-loop-s
invariant-loop-s l = l.out.items ≡ l.fn.out.items ++ states_text l.first l.reached l.marks l.s
