use Rattle.std.proofs.Common.{◌≡◌, max, drop}
use Rattle.vpg_game.specs.Game.{vertex_ids}
use Rattle.vpg_game.specs.Writing.{greatest}
use Rattle.vpg_game.proofs.writing.greatest_id.Given as goal

abbrev pub invariant-loop-vertex : goal.invariant-loop-vertex
invariant-loop-vertex l = max l.greatest (greatest (vertex_ids (drop l.vertex-index l.vertices))) ≡ greatest (vertex_ids l.vertices)
