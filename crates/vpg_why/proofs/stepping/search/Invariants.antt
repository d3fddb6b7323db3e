use Rattle.std.proofs.Common.{length}
use Rattle.vpg_game.specs.Game.{graph_of}
use Rattle.vpg_why.specs.Reachable.{MayStep}
use Rattle.vpg_why.proofs.SearchSteps.{IsSearching}
use Rattle.vpg_why.proofs.stepping.search.Given as goal

abbrev pub invariant-loop-place : goal.invariant-loop-place
invariant-loop-place l = IsSearching (MayStep (graph_of l.game) l.known l.mover l.moves) (length l.game.vertices) l.first l.marks.items l.queue.items l.place
