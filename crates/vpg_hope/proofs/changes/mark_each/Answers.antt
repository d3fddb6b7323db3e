use Rattle.std.proofs.lemmas.Grind.{common_steps}
use Rattle.std.proofs.Common.{◌<◌, ℕ, get_or, sym, subst, arith}
use Rattle.vpg_hope.proofs.ChangeSteps.{marked_none, marked_more}
use Rattle.vpg_hope.proofs.changes.mark_each.Goals as goal

pub loop-v-init : goal.loop-v-init
loop-v-init c = marked_none c.args.marks.now

pub loop-v-preserved : goal.loop-v-preserved
loop-v-preserved c =
    marked_more c.args.vertices.now c.loop-v.v-index 0 c.args.marks.now c.loop-v.marks c.loop-v-test.true
    (subst (λ (n : ℕ). get_or c.args.vertices.now c.loop-v.v-index 0 < n) (sym c.loop-v.invariant.count) (c.requires c.loop-v.v-index 0 c.loop-v-test.true)) c.loop-v.invariant

pub returns-clause-marked : goal.returns-clause-marked
returns-clause-marked c = grind (arith, common_steps)

pub bounds-marks-v : goal.bounds-marks-v
bounds-marks-v c = grind (arith, common_steps)
