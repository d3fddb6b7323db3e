use Rattle.std.proofs.Common.{◌≡◌, take}
use Rattle.vpg_game.specs.Game.{vertex_ids}
use Rattle.vpg_game.proofs.dual.identifiers.Given as goal

abbrev pub invariant-loop-vertex : goal.invariant-loop-vertex
invariant-loop-vertex l = l.ids.keys ≡ take l.vertex-index (vertex_ids l.vertices)
