use Rattle.std.proofs.Common.{◌≡◌, take}
use Rattle.vpg_game.specs.Game.{vertex_ids}
use Rattle.vpg_hope.proofs.plain.ids_of.Given as goal

abbrev pub invariant-loop-v : goal.invariant-loop-v
invariant-loop-v l = l.ids.items ≡ take l.v (vertex_ids l.game.vertices)
