use Rattle.std.proofs.Common.{length}
use Rattle.vpg_sides.specs.declared.player.Player.{Player}
use Rattle.vpg_hope.specs.Strategies.{AllowsMove}
use Rattle.vpg_measure.specs.Views.{strategy_of}
use Rattle.vpg_why.proofs.SearchSteps.{IsSearching}
use Rattle.vpg_why.proofs.reaching.search.Given as goal

abbrev pub invariant-loop-place : goal.invariant-loop-place
invariant-loop-place l = IsSearching (AllowsMove l.arena Player.Even (strategy_of l.moves)) (length l.arena) l.first l.marks.items l.queue.items l.place
