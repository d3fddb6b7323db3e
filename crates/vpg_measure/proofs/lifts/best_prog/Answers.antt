use Rattle.std.proofs.Common.{ℕ, ◌∙◌, sym, ap, map, length, arith}
use Rattle.std.proofs.lemmas.Grind.{common_steps}
use Rattle.std.specs.Prelude.{slice_index}
use Rattle.std.proofs.lemmas.Bool.{eqb-false}
use Rattle.vpg_game.specs.Levels.{top_of, prog_of}
use Rattle.vpg_hope.specs.Arena.{vertex_at}
use Rattle.vpg_measure.specs.Lifts.{least_of, greatest_of}
use Rattle.vpg_measure.proofs.Progs.{least_of-le, greatest_of-le, slice_index-le, lift-even, lift-odd}
use Rattle.vpg_measure.proofs.lifts.best_prog.Goals as goal

pub prog-requires : goal.prog-requires
prog-requires c =
    rw (c.least_value.ensures, c.top.ensures.top) (least_of-le (top_of c.args.shape.now) (map (λ w. slice_index c.args.table.now w) c.kept-kept.result.now))

pub prog-requires-else-is_empty : goal.prog-requires-else-is_empty
prog-requires-else-is_empty c =
    rw c.greatest_value.ensures (greatest_of-le (top_of c.args.shape.now) c.kept-kept.result.now (λ w. slice_index c.args.table.now w)
    (slice_index-le (top_of c.args.shape.now) c.args.table.now c.requires.table.within))

pub returns-in-Even-clause-lift : goal.returns-in-Even-clause-lift
returns-in-Even-clause-lift c =
    let ls = c.args.shape.now in
    let x = vertex_at c.args.arena.now c.args.v in
    let at : ℕ → ℕ = λ w. slice_index c.args.table.now w in
    c.prog.ensures.prog
    ∙ ap (λ p. prog_of ls p c.least_value.result) c.priority.ensures
    ∙ ap (prog_of ls x.priority)
    (c.least_value.ensures
    ∙ ap (λ t. least_of t (map at c.kept-kept.result.now)) c.top.ensures.top
    ∙ ap (λ ws. least_of (top_of ls) (map at ws)) c.kept-kept.ensures.kept)
    ∙ sym (lift-even ls c.args.table.now x c.requires.table.within (sym c.owner.ensures ∙ c.in-Even.is))

pub returns-else-is_empty-clause-lift : goal.returns-else-is_empty-clause-lift
returns-else-is_empty-clause-lift c =
    let ls = c.args.shape.now in
    let x = vertex_at c.args.arena.now c.args.v in
    let at : ℕ → ℕ = λ w. slice_index c.args.table.now w in
    c.prog-else-is_empty.ensures.prog
    ∙ ap (λ p. prog_of ls p c.greatest_value.result) c.priority-else-is_empty.ensures
    ∙ ap (prog_of ls x.priority)
    (c.greatest_value.ensures ∙ ap (λ ws. greatest_of (map at ws)) c.kept-kept.ensures.kept)
    ∙ sym (lift-odd ls c.args.table.now x c.requires.table.within (sym c.owner.ensures ∙ c.in-Odd.is)
    (omega (arith, eqb-false (length c.kept-kept.result.now) 0 (sym c.if-is_empty.ensures), ap length c.kept-kept.ensures.kept)))

pub returns-then-is_empty-clause-lift : goal.returns-then-is_empty-clause-lift
returns-then-is_empty-clause-lift c = grind (arith, common_steps)
