use Rattle.std.proofs.lemmas.Grind.{common_steps}
use Rattle.std.proofs.Common.{arith, ◌∙◌}
use Rattle.vpg_guards.specs.declared.tri.Tri.TheVariants.{Unknown}
use Rattle.vpg_features.proofs.Noted.{any_default}
use Rattle.vpg_game.specs.Game.{graph_of}
use Rattle.vpg_hope.proofs.ChangeSteps.{marked_next, unmarked_still}
use Rattle.vpg_hope.proofs.changes.mark_all.Goals as goal

pub loop-f-init : goal.loop-f-init
loop-f-init c = record { count = c.requires.count; marked = λ f v l. absurd (omega arith) }

pub loop-f-preserved : goal.loop-f-preserved
loop-f-preserved c =
    marked_next c.args.before.now c.args.now.now (graph_of c.args.game.now) c.loop-f.f c.loop-f.marks c.mark_changed.new.marks c.loop-f.invariant c.mark_changed.ensures.count c.mark_changed.ensures.kept
    (λ differ v h. c.mark_changed.ensures.marked
    (λ e. differ (any_default c.args.before.now c.loop-f.f Unknown _ c.loop-f-test.true ∙ e ∙ any_default c.args.now.now c.loop-f.f _ Unknown (omega (arith, c.loop-f-test.true, c.requires.same)))) v h)

pub returns-clause-still : goal.returns-clause-still
returns-clause-still c = unmarked_still c.args.before.now c.args.now.now (graph_of c.args.game.now) c.loop-f.f c.loop-f.marks c.loop-f-test.false c.requires.same c.loop-f.invariant

pub mark_changed-requires : goal.mark_changed-requires
mark_changed-requires c = grind (arith, common_steps)
