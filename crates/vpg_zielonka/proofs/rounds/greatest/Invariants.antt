use Rattle.vpg_game.specs.Game.{graph_of}
use Rattle.vpg_zielonka.proofs.Priorities.{IsGreatest}
use Rattle.vpg_zielonka.proofs.rounds.greatest.Given as goal

abbrev pub invariant-loop-v : goal.invariant-loop-v
invariant-loop-v l = IsGreatest l.sets (graph_of l.game) l.part l.v l.greatest
