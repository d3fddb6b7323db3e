use Rattle.std.proofs.Common.{◌↔◌, IsTrue, length, sym, ap, ◌∙◌, subst, arith}
use Rattle.std.proofs.lemmas.Grind.{common_steps}
use Rattle.vpg_game.specs.Game.{graph_of}
use Rattle.vpg_guards.specs.Known.{kleene}
use Rattle.vpg_hope.specs.Unmarked.{AreSameUnmarked}
use Rattle.vpg_measure.specs.Games.{games_levels, games_arena}
use Rattle.vpg_measure.specs.Lifts.{IsProgressTable}
use Rattle.vpg_measure.specs.TwoGames.{arena_for}
use Rattle.vpg_sides.specs.declared.which.Which.TheVariants.{Hopeful, Dual}
use Rattle.vpg_measure.proofs.Staying.{table_stays, marks_count, unmarked_stays, both_by_second, both_by_first}
use Rattle.vpg_measure.proofs.games.PageGames.stay_settled.Goals as goal
use Rattle.vpg_measure.proofs.games.PageGames.stay_settled.Goals.{then-stays, else-stays}

pub stays-requires-clause-table : goal.stays-requires-clause-table
stays-requires-clause-table c = table_stays c.args.game.now c.args.self.now c.requires.now Hopeful c.args.hopeful.now (kleene c.args.before.now.known) c.requires.settled.hopeful.is_table

pub stays-requires-clause-marks : goal.stays-requires-clause-marks
stays-requires-clause-marks c = marks_count c.args.game.now c.args.self.now c.requires.now Hopeful c.args.hopeful.now c.deref.result.now (ap length c.deref.ensures.value ∙ c.in_ok-marks.ensures.count)

pub stays-requires-clause-held : goal.stays-requires-clause-held
stays-requires-clause-held c =
    unmarked_stays c.args.game.now c.args.self.now c.requires.now Hopeful c.args.hopeful.now c.args.before.now.known c.deref.result.now
    (coe 0 1 (k. AreSameUnmarked (sym c.deref.ensures.value k) (arena_for (kleene (c.known.ensures k)) Hopeful (graph_of c.args.game.now)) (arena_for (kleene (c.known-2.ensures k)) Hopeful (graph_of c.args.game.now)))
    c.in_ok-marks.ensures.hopeful)
    c.requires.settled.hopeful

pub stays-requires-then-stays-clause-table : goal.stays-requires-then-stays-clause-table
stays-requires-then-stays-clause-table c = table_stays c.args.game.now c.args.self.now c.requires.now Dual c.args.dual.now (kleene c.args.before.now.known) c.requires.settled.dual.is_table

pub stays-requires-then-stays-clause-marks : goal.stays-requires-then-stays-clause-marks
stays-requires-then-stays-clause-marks c =
    marks_count c.args.game.now c.args.self.now c.requires.now Dual c.args.dual.now c.deref-then-stays.result.now (ap length c.deref-then-stays.ensures.value ∙ c.in_ok-marks.ensures.count)

pub stays-requires-then-stays-clause-held : goal.stays-requires-then-stays-clause-held
stays-requires-then-stays-clause-held c =
    unmarked_stays c.args.game.now c.args.self.now c.requires.now Dual c.args.dual.now c.args.before.now.known c.deref-then-stays.result.now
    (coe 0 1 (k. AreSameUnmarked (sym c.deref-then-stays.ensures.value k) (arena_for (kleene (c.known.ensures k)) Dual (graph_of c.args.game.now)) (arena_for (kleene (c.known-2.ensures k)) Dual (graph_of c.args.game.now)))
    c.in_ok-marks.ensures.dual)
    c.requires.settled.dual

pub returns : goal.returns
returns c =
    let first = table_stays c.args.game.now c.args.self.now c.requires.now Hopeful c.args.hopeful.now (kleene c.args.before.now.known) c.requires.settled.hopeful.is_table in
    let second = table_stays c.args.game.now c.args.self.now c.requires.now Dual c.args.dual.now (kleene c.args.before.now.known) c.requires.settled.dual.is_table in
    elim c.if-stays.branch [
      | then-stays w ↦ both_by_second c.args.game.now c.args.self.now c.requires.now c.args.hopeful.now c.args.dual.now first second c.if-stays.result (c.stays.ensures.0 w.if-stays.true)
          (subst (λ b. IsTrue b ↔ IsProgressTable (games_levels Dual c.args.self.now) (games_arena Dual c.args.self.now) c.args.dual.now) (sym w.result-is) w.stays-then-stays.ensures)
      | else-stays w ↦ both_by_first c.args.game.now c.args.self.now c.requires.now c.args.hopeful.now c.args.dual.now first second c.if-stays.result (w.result-is ∙ w.if-stays.false)
          (subst (λ b. IsTrue b ↔ IsProgressTable (games_levels Hopeful c.args.self.now) (games_arena Hopeful c.args.self.now) c.args.hopeful.now) (sym w.result-is) c.stays.ensures)
    ]

pub concerned_vertices-requires-clause-before : goal.concerned_vertices-requires-clause-before
concerned_vertices-requires-clause-before c = grind (arith, common_steps)
