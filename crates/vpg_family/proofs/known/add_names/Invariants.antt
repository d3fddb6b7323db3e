use Rattle.std.proofs.Common.{◌≡◌, ◌++◌}
use Rattle.vpg_game.specs.Game.{vertex_ids}
use Rattle.vpg_family.specs.Called.{text_callings}
use Rattle.vpg_family.proofs.known.add_names.Given as goal

abbrev pub invariant-loop-v : goal.invariant-loop-v
invariant-loop-v l = l.callings ≡ l.fn.callings ++ text_callings l.names.names (vertex_ids l.game.vertices) l.v
