use Rattle.std.proofs.Common.{◌&&◌}
use Rattle.std.specs.Prelude.{◌==◌}
use Rattle.vpg_game.specs.Game.{graph_of, vertex_in}
use Rattle.vpg_zielonka.specs.Universes.{has}
use Rattle.vpg_zielonka.specs.Parts.{set_at}
use Rattle.vpg_zielonka.proofs.Filling.{AreMade}
use Rattle.vpg_zielonka.proofs.rounds.tops.Given as goal

abbrev pub invariant-loop-v : goal.invariant-loop-v
invariant-loop-v l =
    AreMade l.sets (λ v p. ((vertex_in (graph_of l.game) v).priority == l.priority) && has l.sets (set_at l.part v) p)
    l.v l.seeds.items
