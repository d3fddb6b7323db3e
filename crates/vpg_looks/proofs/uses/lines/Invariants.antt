use Rattle.std.proofs.Common.{◌≡◌, ◌++◌, take}
use Rattle.std.specs.Prelude.{flat_map}
use Rattle.vpg_game.specs.Game.{vertex_ids}
use Rattle.vpg_looks.specs.Uses.{use_line}
use Rattle.vpg_looks.proofs.uses.lines.Given as goal

abbrev pub invariant-loop-used : goal.invariant-loop-used
invariant-loop-used l =
    l.out.items ≡ l.fn.out.items ++ flat_map (use_line (vertex_ids l.order.game.vertices) l.labels.names) (take l.used-index l.listed)
