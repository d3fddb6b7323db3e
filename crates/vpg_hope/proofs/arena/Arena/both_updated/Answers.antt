use Rattle.std.proofs.lemmas.Grind.{common_steps}
use Rattle.std.proofs.Common.{length, ap, ◌∙◌, arith}
use Rattle.std.proofs.lemmas.Result.{IfOk-weaker}
use Rattle.vpg_game.specs.Game.{graph_of}
use Rattle.vpg_hope.proofs.Selected.{hopeful_is, hopeful_of_dual_is}
use Rattle.vpg_hope.proofs.ChangeSteps.{hopeful_held, hopeful_count, dual_held, dual_count}
use Rattle.vpg_hope.proofs.arena.Arena.both_updated.Goals as goal

pub reselected-requires-clause-count : goal.reselected-requires-clause-count
reselected-requires-clause-count c = ap length c.requires.held ∙ hopeful_count c.args.before.now (graph_of c.args.game.now)

pub reselected-requires-clause-other_count : goal.reselected-requires-clause-other_count
reselected-requires-clause-other_count c = ap length c.requires.dual_held ∙ dual_count c.args.before.now (graph_of c.args.game.now)

pub reselected-requires-clause-marks : goal.reselected-requires-clause-marks
reselected-requires-clause-marks c = ap length c.deref.ensures.value ∙ c.in_ok-marks.ensures.count

pub reselected-requires-clause-held : goal.reselected-requires-clause-held
reselected-requires-clause-held c =
    hopeful_held c.args.before.now c.args.known.now (graph_of c.args.game.now) c.values-3.result c.values.result c.values-2.result c.args.self.now c.in_ok-marks.marks.items c.deref.result.now
    c.values-3.ensures c.values.ensures c.values-2.ensures c.deref.ensures.value c.requires.held c.in_ok-marks.ensures.still

pub reselected-requires-clause-other_held : goal.reselected-requires-clause-other_held
reselected-requires-clause-other_held c =
    dual_held c.args.before.now c.args.known.now (graph_of c.args.game.now) c.values-4.result c.values.result c.values-2.result c.args.of_dual.now c.in_ok-marks.marks.items c.deref.result.now
    c.values-4.ensures c.values.ensures c.values-2.ensures c.deref.ensures.value c.requires.dual_held c.in_ok-marks.ensures.still

pub returns-clause-hopeful : goal.returns-clause-hopeful
returns-clause-hopeful c = IfOk-weaker c.reselected.result _ _ (λ both is. is ∙ hopeful_is c.values-3.result c.args.known.now (graph_of c.args.game.now) c.values-3.ensures) c.reselected.ensures.first

pub returns-clause-dual : goal.returns-clause-dual
returns-clause-dual c = IfOk-weaker c.reselected.result _ _ (λ both is. is ∙ hopeful_of_dual_is c.values-4.result c.args.known.now (graph_of c.args.game.now) c.values-4.ensures) c.reselected.ensures.second

pub reselected-requires-clause-features : goal.reselected-requires-clause-features
reselected-requires-clause-features c = grind (arith, common_steps)

pub reselected-requires-clause-second_features : goal.reselected-requires-clause-second_features
reselected-requires-clause-second_features c = grind (arith, common_steps)

pub concerned-requires-clause-before : goal.concerned-requires-clause-before
concerned-requires-clause-before c = grind (arith, common_steps)

pub concerned-requires-clause-now : goal.concerned-requires-clause-now
concerned-requires-clause-now c = grind (arith, common_steps)
