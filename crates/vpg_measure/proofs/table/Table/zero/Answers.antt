use Rattle.std.proofs.Common.{sym, subst}
use Rattle.vpg_measure.specs.Numbers.{AreZeroMeasures}
use Rattle.vpg_measure.proofs.Numbers.{zeros_are_zero_measures}
use Rattle.vpg_measure.proofs.table.Table.zero.Goals as goal

pub returns-clause-measures : goal.returns-clause-measures
returns-clause-measures c =
    subst (AreZeroMeasures c.args.shape.now) (sym (c.in_ok-vec.ensures.items_if_clones_equal (λ y e. e)))
    (zeros_are_zero_measures c.args.shape.now c.args.vertices)
