use Rattle.std.proofs.Common.{length}
use Rattle.vpg_game.specs.Game.{graph_of}
use Rattle.vpg_zielonka.proofs.Waiting.{AreWaiting}
use Rattle.vpg_zielonka.proofs.attracting.waiting_at.Given as goal

abbrev pub invariant-loop-v : goal.invariant-loop-v
invariant-loop-v l = AreWaiting l.sets l.part (length (graph_of l.game)) l.v l.waiting
