use Rattle.std.proofs.Common.{◌≡◌, ◌++◌}
use Rattle.vpg_draw.specs.PartDrawing.{all_part_edges_text}
use Rattle.vpg_draw.proofs.part.all_edges.Given as goal

abbrev pub invariant-loop-v : goal.invariant-loop-v
invariant-loop-v l = l.out.items ≡ l.fn.out.items ++ all_part_edges_text l.features l.known l.game.vertices l.marks l.mover l.moves l.v
