use Rattle.std.proofs.Common.{◌≡◌, ◌≤◌, true, length}
use Rattle.vpg_game.specs.Game.{graph_of}
use Rattle.vpg_zielonka.specs.Reached.{flagged, IsClosedBut}
use Rattle.vpg_zielonka.proofs.reaching.reached.Given as goal

abbrev pub invariant-loop-v : goal.invariant-loop-v
invariant-loop-v l =
    (length l.found.items ≡ length (graph_of l.game)) × (length l.waiting ≡ length (graph_of l.game))
    × (flagged l.found.items l.vertex ≡ true)
    × IsClosedBut (graph_of l.game) (flagged l.found.items) (λ u. flagged l.waiting u ≡ true)
    × (l.steps ≤ l.fn.steps)

abbrev pub decreases-loop-v : goal.decreases-loop-v
decreases-loop-v l = l.steps
