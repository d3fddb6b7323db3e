use Rattle.std.proofs.Common.{◌≡◌, List, subst, IfOk}
use Rattle.vpg_game.specs.declared.levels.Level.{Level}
use Rattle.vpg_game.specs.Game.{graph_of}
use Rattle.vpg_measure.proofs.Priorities.{dual_levels}
use Rattle.vpg_measure.proofs.shape.Shape.of_dual.Goals as goal

pub returns : goal.returns
returns c = subst (λ (levels : List Level). IfOk c.raised.result (λ shape. shape ≡ levels)) (dual_levels (graph_of c.args.game.now)) c.raised.ensures
