use Rattle.std.proofs.Common.{arith, sym, subst, get_or, refl}
use Rattle.std.specs.Prelude.{slice_index}
use Rattle.vpg_measure.specs.Bounds.{Supports}
use Rattle.vpg_measure.proofs.Steps.{read_more}
use Rattle.std.proofs.lemmas.Bool.{false≢true}
use Rattle.std.proofs.lemmas.List.{get_or_default}
use Rattle.vpg_measure.proofs.bounds.some_supports.Goals as goal

pub loop-w-preserved : goal.loop-w-preserved
loop-w-preserved c =
    let cert = c.args.certificate.now in
    read_more
    (λ w. ¬ Supports c.args.shape.now c.args.dual_shape.now cert.bounds cert.ranks c.args.priority
    (slice_index cert.bounds c.args.v) (slice_index cert.ranks c.args.v) w)
    c.args.kept.now c.loop-w.w-index c.loop-w-test.true c.loop-w.invariant (λ s. false≢true (c.if-supports.ensures.1 s))

pub returns : goal.returns
returns c =
    let cert = c.args.certificate.now in (
      λ t. absurd (false≢true t),
      λ any. absurd (c.loop-w.invariant any.0 any.1 (omega (arith, any.2, c.loop-w-test.false)) (subst
          (λ w. Supports c.args.shape.now c.args.dual_shape.now cert.bounds cert.ranks c.args.priority
          (slice_index cert.bounds c.args.v) (slice_index cert.ranks c.args.v) w)
          (sym any.3) any.4)),
    )

pub returns-then-supports : goal.returns-then-supports
returns-then-supports c =
    let kept = c.args.kept.now in
    let i = c.loop-w.w-index in (
      λ t. (i, get_or kept i 0, c.loop-w-test.true, get_or_default kept i (get_or kept i 0) 0 c.loop-w-test.true, c.supports.ensures.0 c.if-supports.true),
      λ any. refl,
    )
