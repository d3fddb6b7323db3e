use Rattle.std.proofs.Common.{◌≤◌, ◌↔◌, ℕ, sym, subst}
use Rattle.vpg_hope.specs.Arena.{vertex_at}
use Rattle.vpg_measure.specs.Lifts.{NumberFitsAt}
use Rattle.vpg_measure.proofs.Progs.{lift_is_least}
use Rattle.vpg_measure.proofs.lifts.lift.Goals as goal

pub returns-clause-least : goal.returns-clause-least
returns-clause-least c n small =
    subst (λ (least : ℕ). NumberFitsAt c.args.shape.now c.args.table.now (vertex_at c.args.arena.now c.args.v) n ↔ (least ≤ n)) (sym c.best_prog.ensures.lift)
    (lift_is_least c.args.shape.now c.args.table.now (vertex_at c.args.arena.now c.args.v) n c.requires.table.within small)
