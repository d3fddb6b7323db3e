use Rattle.std.proofs.Common.{◌≡◌, ◌+◌, ◌*◌, ◌<◌, ◌++◌, drop, length}
use Rattle.vpg_rules.specs.Constraint.{AreBelow}
use Rattle.vpg_rules.specs.View.{constraint_of, constraints_of}
use Rattle.vpg_tree.specs.RuleText.{all_text, more_all_text, any_text, more_any_text}
use Rattle.vpg_tree.proofs.Sizes.{size, parts_size}
use Rattle.vpg_tree.proofs.rules.+put.Given as goal

abbrev pub decreases-put_rule : goal.decreases-put_rule
decreases-put_rule l = 2 * size (constraint_of l.rule.now)

abbrev pub decreases-put_closer : goal.decreases-put_closer
decreases-put_closer l = 2 * size (constraint_of l.rule.now) + 1

abbrev pub decreases-put_all : goal.decreases-put_all
decreases-put_all l = 2 * parts_size (constraints_of l.parts.now)

abbrev pub decreases-put_any : goal.decreases-put_any
decreases-put_any l = 2 * parts_size (constraints_of l.parts.now)

-- what is written and what is still to write is the whole
abbrev pub invariant-put_all-loop-part : goal.invariant-put_all-loop-part
invariant-put_all-loop-part l = record {
  below : AreBelow (length l.names) (constraints_of (drop l.part-index l.others));
  less : parts_size (constraints_of (drop l.part-index l.others)) < parts_size (constraints_of l.parts);
  text : l.out.items ++ more_all_text l.names (constraints_of (drop l.part-index l.others)) ≡ l.fn.out.items ++ all_text l.names (constraints_of l.parts);
}

abbrev pub invariant-put_any-loop-part : goal.invariant-put_any-loop-part
invariant-put_any-loop-part l = record {
  below : AreBelow (length l.names) (constraints_of (drop l.part-index l.others));
  less : parts_size (constraints_of (drop l.part-index l.others)) < parts_size (constraints_of l.parts);
  text : l.out.items ++ more_any_text l.names (constraints_of (drop l.part-index l.others)) ≡ l.fn.out.items ++ any_text l.names (constraints_of l.parts);
}
