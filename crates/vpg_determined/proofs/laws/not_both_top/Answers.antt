use Rattle.vpg_hope.proofs.Edges.{edges_inside}
use Rattle.vpg_determined.proofs.Winners.{not_both_top}
use Rattle.vpg_determined.proofs.laws.not_both_top.Goals as goal

pub returns : goal.returns
returns c =
    λ easy hard shape dual_shape table dual_table easier closed hard_closed is_shape is_dual below dual_below v inside.
    not_both_top easy hard shape dual_shape table dual_table easier (edges_inside easy closed)
    (edges_inside hard hard_closed) is_shape is_dual below dual_below v inside
