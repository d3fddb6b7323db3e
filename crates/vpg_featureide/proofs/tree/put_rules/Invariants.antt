use Rattle.std.proofs.Common.{◌≡◌, ◌++◌, length, map, reverse, vec_len}
use Rattle.std.specs.List.{AllByRecursion}
use Rattle.vpg_rules.specs.Constraint.{IsBelow}
use Rattle.vpg_rules.specs.View.{constraint_of}
use Rattle.vpg_featureide.proofs.tree.put_rules.Given as goal

abbrev pub invariant-loop-rule : goal.invariant-loop-rule
invariant-loop-rule l = record {
  below : AllByRecursion (IsBelow (length l.tree.names)) (map constraint_of (reverse l.rules.items));
  all : record l.tree { constraints = l.tree.constraints ++ map constraint_of (reverse l.rules.items) }
      ≡ record l.fn.tree { constraints = l.fn.tree.constraints ++ map constraint_of (reverse l.fn.rules.items) };
}

abbrev pub decreases-loop-rule : goal.decreases-loop-rule
decreases-loop-rule l = vec_len l.rules
