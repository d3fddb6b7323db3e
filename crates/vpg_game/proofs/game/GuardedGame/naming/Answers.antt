use Rattle.std.proofs.Common.{ℕ, ◌↔◌, Contains, subst}
use Rattle.vpg_game.specs.Game.{NamedGame, graph_of, vertex_in}
use Rattle.vpg_game.specs.Naming.{features_named}
use Rattle.vpg_game.proofs.NamingSteps.{naming_found}
use Rattle.vpg_game.proofs.game.GuardedGame.naming.Goals as goal

pub returns : goal.returns
returns c =
    subst (λ (g : NamedGame). (v : ℕ) → Contains c.numbers.result.now v ↔ Contains (features_named (vertex_in (graph_of g) v).edges) c.args.feature) c.self.view_is
    (naming_found (record { vertices = c.self.inside.vertices.items; features = c.self.inside.features }) c.self.inside.naming c.numbers.result.now c.args.feature c.numbers.ensures c.self.invariant.4)
