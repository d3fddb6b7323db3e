use Rattle.std.proofs.Common.{◌-◌, ◌≤◌, length}
use Rattle.vpg_game.specs.Game.{graph_of}
use Rattle.vpg_zielonka.specs.Winners.{AreFirstWinners, lists_of}
use Rattle.vpg_zielonka.proofs.each.winners_of.Given as goal

abbrev pub invariant-loop-alloc : goal.invariant-loop-alloc
invariant-loop-alloc l =
    AreFirstWinners (graph_of l.game) l.vertex (lists_of l.products) l.found.items × (l.steps ≤ l.fn.steps)

abbrev pub decreases-loop-alloc : goal.decreases-loop-alloc
decreases-loop-alloc l = length l.products - length l.found.items
