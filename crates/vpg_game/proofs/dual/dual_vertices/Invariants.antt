use Rattle.std.proofs.Common.{◌≡◌, map, take}
use Rattle.vpg_game.specs.Game.{dual_vertex}
use Rattle.vpg_game.proofs.dual.dual_vertices.Given as goal

abbrev pub invariant-loop-vertex : goal.invariant-loop-vertex
invariant-loop-vertex l = l.duals.items ≡ map dual_vertex (take l.vertex-index l.vertices)
