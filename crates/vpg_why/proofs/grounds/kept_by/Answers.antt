use Rattle.std.proofs.Common.{arith, ap, ◌∙◌, true, false}
use Rattle.vpg_features.proofs.Noted.{any_default}
use Rattle.vpg_why.proofs.Reasons.{keep_one, drop_one}
use Rattle.vpg_why.proofs.grounds.kept_by.Goals as goal
use Rattle.vpg_why.proofs.grounds.kept_by.Goals.{then-marks-i+in_ok-push, else-marks-i}

pub loop-i-preserved : goal.loop-i-preserved
loop-i-preserved c = elim c.if-marks-i.branch [
  | then-marks-i+in_ok-push w ↦ keep_one c.args.decisions.now c.args.marks.now c.loop-i.i _ c.loop-i.kept.items c.if-marks-i.kept.items c.requires c.loop-i-test.true
      (any_default c.args.marks.now c.loop-i.i true false (omega (arith, c.requires, c.loop-i-test.true)) ∙ w.if-marks-i.true)
      (any_default c.args.decisions.now c.loop-i.i _ _ c.loop-i-test.true) (ap (λ v. v.items) w.kept-is ∙ w.in_ok-push.ensures.items) c.loop-i.invariant
  | else-marks-i w ↦ drop_one c.args.decisions.now c.args.marks.now c.loop-i.i c.loop-i.kept.items c.if-marks-i.kept.items c.requires c.loop-i-test.true
      w.if-marks-i.false (ap (λ v. v.items) w.kept-is) c.loop-i.invariant
]
