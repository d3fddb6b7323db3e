use Rattle.std.proofs.Common.{length}
use Rattle.vpg_rules.specs.Constraint.{IsBelow}
use Rattle.vpg_rules.specs.View.{constraint_of}
use Rattle.vpg_tree.proofs.Grouped.{one_mapped}
use Rattle.vpg_tree.proofs.writing.put_constraints.Goals as goal

pub put_constraint-requires : goal.put_constraint-requires
put_constraint-requires c =
    one_mapped (IsBelow (length c.args.names.now)) constraint_of c.args.constraints.now c.loop-constraint.constraint-index c.constraint-item.result c.loop-constraint-test.true c.constraint-item.is c.requires
