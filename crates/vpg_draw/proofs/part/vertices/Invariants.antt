use Rattle.std.proofs.Common.{◌≡◌, ◌++◌}
use Rattle.vpg_draw.specs.PartDrawing.{part_vertices_text}
use Rattle.vpg_draw.proofs.part.vertices.Given as goal

abbrev pub invariant-loop-v : goal.invariant-loop-v
invariant-loop-v l = l.out.items ≡ l.fn.out.items ++ part_vertices_text l.game.vertices l.names.names l.verdicts l.first l.marks l.v
