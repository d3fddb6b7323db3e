use Rattle.vpg_game.specs.Game.{graph_of}
use Rattle.vpg_zielonka.specs.Universes.{IsGrown}
use Rattle.vpg_zielonka.proofs.StuckSets.{AreStuckUpTo}
use Rattle.vpg_zielonka.proofs.rounds.stuck.Given as goal

abbrev pub invariant-loop-v : goal.invariant-loop-v
invariant-loop-v l =
    IsGrown l.fn.sets l.sets × AreStuckUpTo l.fn.sets (graph_of l.game) l.player l.part l.sets l.v l.seeds.items
