use Rattle.std.proofs.Common.{◌≡◌, length}
use Rattle.vpg_game.specs.Game.{graph_of}
use Rattle.vpg_open.proofs.reaching.marks_from.Given as goal

abbrev pub invariant-loop-place : goal.invariant-loop-place
invariant-loop-place l = length l.marks.items ≡ length (graph_of l.game)
