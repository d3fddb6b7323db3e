use Rattle.std.proofs.Common.{ℕ, ◌≡◌, ◌+◌, ◌∙◌, ◌==◌, Bool, false, sym, ap, drop, get_or, Some}
use Rattle.std.specs.Prelude.{slice_index}
use Rattle.std.specs.List.{find}
use Rattle.std.proofs.lemmas.Bool.{ne_eqb, cond-false}
use Rattle.std.proofs.lemmas.List.{drop_more}
use Rattle.vpg_game.specs.Levels.{prog_of}
use Rattle.vpg_measure.proofs.lifts.first_of.Goals as goal

pub loop-w-preserved : goal.loop-w-preserved
loop-w-preserved c =
    let kept = c.args.kept.now in
    let rest = drop (c.loop-w.w-index + 1) kept in
    let w = get_or kept c.loop-w.w-index 0 in
    let test : ℕ → Bool = λ u. prog_of c.args.shape.now c.args.priority (slice_index c.args.table.now u) == c.args.least in
    let prog = c.prog.ensures.prog ∙ ap (prog_of c.args.shape.now c.args.priority) c.get.ensures in
    let other : test w ≡ false = ne_eqb _ c.args.least (λ e. c.if-prog-least.false (prog ∙ e)) in
    sym (cond-false (test w) (Some w) (find test rest) other)
    ∙ sym (ap (find test) (drop_more kept c.loop-w.w-index 0 c.loop-w-test.true))
    ∙ c.loop-w.invariant
