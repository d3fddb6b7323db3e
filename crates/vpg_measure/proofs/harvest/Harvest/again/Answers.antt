use Rattle.std.proofs.Common.{ℕ, List, subst}
use Rattle.vpg_guards.specs.Known.{kleene}
use Rattle.vpg_game.specs.Game.{graph_of}
use Rattle.vpg_measure.specs.TwoGames.{IsTableBelow}
use Rattle.vpg_measure.proofs.OrderLemmas.{harvest_room}
use Rattle.vpg_measure.proofs.harvest.Harvest.again.Goals as goal

pub exchange_room-requires : goal.exchange_room-requires
exchange_room-requires c which =
    subst (λ (table : List ℕ). IsTableBelow (kleene c.self.inside.order.known) which (graph_of c.self.inside.order.game) table)
    (harvest_room c.self.inside.order which) (c.self.invariant.harvest.below which)
