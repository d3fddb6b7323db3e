use Rattle.vpg_measure.proofs.MeasureOrder.{AtMost-refl, AtMost-trans, AtMost-antisym, AtMost-total}
use Rattle.vpg_measure.proofs.laws.measures.at_most_is_total_order.Goals as goal

pub returns : goal.returns
returns c = record { reflexive = AtMost-refl; transitive = AtMost-trans; antisymmetric = AtMost-antisym; total = AtMost-total }
