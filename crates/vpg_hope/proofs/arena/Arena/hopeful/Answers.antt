use Rattle.std.proofs.lemmas.Grind.{common_steps}
use Rattle.std.proofs.Common.{◌∙◌, arith}
use Rattle.std.proofs.lemmas.Result.{IfOk-weaker}
use Rattle.vpg_game.specs.Game.{graph_of}
use Rattle.vpg_hope.proofs.Selected.{hopeful_is}
use Rattle.vpg_hope.proofs.arena.Arena.hopeful.Goals as goal

pub returns : goal.returns
returns c = IfOk-weaker c.selected.result _ _ (λ arena is. is ∙ hopeful_is c.values.result c.args.known.now (graph_of c.args.game.now) c.values.ensures) c.selected.ensures

pub selected-requires : goal.selected-requires
selected-requires c = grind (arith, common_steps)
