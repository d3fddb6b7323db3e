use Rattle.std.proofs.Common.{◌≡◌, ◌++◌}
use Rattle.vpg_draw.specs.GameDrawing.{vertices_text}
use Rattle.vpg_draw.proofs.game.vertices.Given as goal

abbrev pub invariant-loop-v : goal.invariant-loop-v
invariant-loop-v l = l.out.items ≡ l.fn.out.items ++ vertices_text l.game.vertices l.names.names l.verdicts l.v
