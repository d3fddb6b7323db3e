use Rattle.std.proofs.Common.{ℕ, ◌∙◌, sym, ap, map, length, arith}
use Rattle.std.proofs.lemmas.Grind.{common_steps}
use Rattle.std.specs.Prelude.{slice_index}
use Rattle.std.proofs.lemmas.Bool.{eqb-false}
use Rattle.vpg_game.specs.Levels.{top_of, prog_of}
use Rattle.vpg_hope.specs.Arena.{vertex_at}
use Rattle.vpg_measure.specs.Lifts.{best_for}
use Rattle.vpg_measure.proofs.Progs.{lift-even, lift-odd}
use Rattle.vpg_measure.proofs.folding.lift_to.Goals as goal

pub returns-in-Even-clause-lift : goal.returns-in-Even-clause-lift
returns-in-Even-clause-lift c table is_table is =
    let ls = c.args.shape.now in
    let x = vertex_at c.args.arena.now c.args.v in
    let even = sym c.owner.ensures ∙ c.in-Even.is in
    let at : ℕ → ℕ = λ w. slice_index table w in
    c.prog.ensures.prog
    ∙ ap (λ p. prog_of ls p c.args.best) c.priority.ensures
    ∙ ap (prog_of ls x.priority) (is ∙ ap (λ o. best_for o (top_of ls) (map at x.successors)) even)
    ∙ sym (lift-even ls table x is_table.within even)

pub returns-else-is_empty-clause-lift : goal.returns-else-is_empty-clause-lift
returns-else-is_empty-clause-lift c table is_table is =
    let ls = c.args.shape.now in
    let x = vertex_at c.args.arena.now c.args.v in
    let odd = sym c.owner.ensures ∙ c.in-Odd.is in
    let at : ℕ → ℕ = λ w. slice_index table w in
    c.prog-else-is_empty.ensures.prog
    ∙ ap (λ p. prog_of ls p c.args.best) c.priority-else-is_empty.ensures
    ∙ ap (prog_of ls x.priority) (is ∙ ap (λ o. best_for o (top_of ls) (map at x.successors)) odd)
    ∙ sym (lift-odd ls table x is_table.within odd (omega (arith, eqb-false (length c.kept.result.now) 0 (sym c.if-is_empty.ensures), ap length c.kept.ensures.kept)))

pub returns-then-is_empty-clause-lift : goal.returns-then-is_empty-clause-lift
returns-then-is_empty-clause-lift c = grind (arith, common_steps)
