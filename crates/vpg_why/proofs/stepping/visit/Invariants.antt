use Rattle.vpg_game.specs.Game.{graph_of, vertex_in}
use Rattle.vpg_measure.specs.Views.{strategy_of}
use Rattle.vpg_why.proofs.SearchSteps.{HaveTaken}
use Rattle.vpg_why.proofs.stepping.visit.Given as goal

-- the edges so far
abbrev pub invariant-loop-e : goal.invariant-loop-e
invariant-loop-e l =
    HaveTaken l.edges l.known l.fn.mover (vertex_in (graph_of l.game) l.v).owner (strategy_of l.moves l.v) l.initial.marks.items l.initial.queue.items
    l.e-index l.marks.items l.queue.items
