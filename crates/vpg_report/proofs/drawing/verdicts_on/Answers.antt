use Rattle.std.proofs.Common.{◌≡◌, length, ap, sym, ◌∙◌}
use Rattle.std.proofs.lemmas.Result.{IfOk-weaker}
use Rattle.std.specs.Global.{Vec}
use Rattle.std.specs.Prelude.{IfOk}
use Rattle.vpg_game.specs.Game.{NamedGame, graph_of}
use Rattle.vpg_measure.specs.Games.{games_levels}
use Rattle.vpg_measure.specs.TwoGames.{levels_for}
use Rattle.vpg_measure.proofs.OrderLemmas.{table_count}
use Rattle.vpg_texts.specs.Changed.{verdicts_by}
use Rattle.vpg_texts.proofs.Pictured.{verdict_each}
use Rattle.vpg_trail.specs.Page.{Hopeful, Dual}
use Rattle.vpg_sides.specs.declared.verdict.Verdict.{Verdict}
use Rattle.vpg_report.proofs.drawing.verdicts_on.Goals as goal

pub verdicts_by-requires-clause-levels : goal.verdicts_by-requires-clause-levels
verdicts_by-requires-clause-levels c = λ which.
    ap (games_levels which) c.deref.ensures ∙ c.games.ensures.levels which ∙ ap (λ (g : NamedGame). levels_for which (graph_of g)) (sym (c.deref-2.ensures ∙ c.game.ensures.game))

pub verdicts_by-requires-clause-hopeful : goal.verdicts_by-requires-clause-hopeful
verdicts_by-requires-clause-hopeful c =
    ap length c.hopeful-hopeful.ensures ∙ table_count c.args.order.now c.game.ensures.order Hopeful ∙ ap (λ (g : NamedGame). length g.vertices) (sym (c.deref-2.ensures ∙ c.game.ensures.game))

pub verdicts_by-requires-clause-dual : goal.verdicts_by-requires-clause-dual
verdicts_by-requires-clause-dual c =
    ap length c.dual-dual.ensures ∙ table_count c.args.order.now c.game.ensures.order Dual ∙ ap (λ (g : NamedGame). length g.vertices) (sym (c.deref-2.ensures ∙ c.game.ensures.game))

pub returns-clause-verdicts : goal.returns-clause-verdicts
returns-clause-verdicts c =
    let same_game = c.deref-2.ensures ∙ c.game.ensures.game in
    coe 0 1 (k. IfOk c.verdicts_by.result (λ verdicts. verdicts.items ≡ verdicts_by (graph_of (same_game k)) (c.hopeful-hopeful.ensures k) (c.dual-dual.ensures k))) c.verdicts_by.ensures

pub returns-clause-each : goal.returns-clause-each
returns-clause-each c =
    let same_game = c.deref-2.ensures ∙ c.game.ensures.game in
    IfOk-weaker _ _ _ (λ (verdicts : Vec Verdict) is. verdict_each c.deref-2.result.now c.hopeful-hopeful.result.now c.dual-dual.result.now verdicts.items is ∙ ap (λ (g : NamedGame). length g.vertices) same_game) c.verdicts_by.ensures
