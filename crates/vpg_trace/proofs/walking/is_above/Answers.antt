use Rattle.std.proofs.Common.{length, ap, ◌∙◌}
use Rattle.vpg_trace.specs.declared.walking.Visit.{Visit}
use Rattle.vpg_trace.proofs.Stepped.{above_next}
use Rattle.vpg_trace.proofs.walking.is_above.Goals as goal

pub loop-preserved : goal.loop-preserved
loop-preserved c =
    above_next c.args.visits.now c.args.k c.in-Some.i c.loop.at c.visit_at-at.result.before (length c.args.visits.now) c.loop.counter c.loop-test.true c.in-Some.is c.if-i-k.false
    (ap (λ (v : Visit). v.before) c.visit_at-at.ensures) ∙ c.loop.invariant
