use Rattle.std.proofs.Common.{◌≡◌}
use Rattle.vpg_game.specs.Game.{graph_of}
use Rattle.vpg_looks.specs.Uses.{uses_below}
use Rattle.vpg_looks.proofs.uses.list.Given as goal

abbrev pub invariant-loop-v : goal.invariant-loop-v
invariant-loop-v l = l.listed.items ≡ uses_below (graph_of l.order.game) l.feature l.v
