use Rattle.vpg_measure.proofs.bounds.all_support.Goals as goal
use Rattle.std.specs.Prelude.{slice_index}
use Rattle.vpg_measure.specs.Bounds.{Supports}
use Rattle.vpg_measure.proofs.Steps.{read_more}

pub loop-w-preserved : goal.loop-w-preserved
loop-w-preserved c =
    let cert = c.args.certificate.now in
    read_more
    (λ w. Supports c.args.shape.now c.args.dual_shape.now cert.bounds cert.ranks c.args.priority
    (slice_index cert.bounds c.args.v) (slice_index cert.ranks c.args.v) w)
    c.args.kept.now c.loop-w.w-index c.loop-w-test.true c.loop-w.invariant (c.supports.ensures.0 c.if-not-supports.false)
