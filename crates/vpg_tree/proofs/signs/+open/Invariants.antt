use Rattle.std.proofs.Common.{◌≡◌, ◌+◌, ◌*◌, ◌≤◌, drop, nat_le}
use Rattle.vpg_rules.specs.View.{constraint_of, constraints_of}
use Rattle.vpg_tree.specs.Laws.{most_open}
use Rattle.vpg_tree.proofs.Sizes.{size, parts_size}
use Rattle.vpg_tree.proofs.signs.+open.Given as goal

abbrev pub decreases-opens_at_most : goal.decreases-opens_at_most
decreases-opens_at_most l = 2 * size (constraint_of l.rule.now)

abbrev pub decreases-closer_opens_at_most : goal.decreases-closer_opens_at_most
decreases-closer_opens_at_most l = 2 * size (constraint_of l.rule.now) + 1

abbrev pub decreases-each_opens_at_most : goal.decreases-each_opens_at_most
decreases-each_opens_at_most l = 2 * parts_size (constraints_of l.parts.now) + 1

-- as many signs are open in the parts as in those that are left, if it is more than the number
abbrev pub invariant-each_opens_at_most-loop-part : goal.invariant-each_opens_at_most-loop-part
invariant-each_opens_at_most-loop-part l = record {
  less : parts_size (constraints_of (drop l.part-index l.parts)) ≤ parts_size (constraints_of l.parts);
  same : nat_le (most_open l.least (constraints_of l.parts)) l.most ≡ nat_le (most_open l.least (constraints_of (drop l.part-index l.parts))) l.most;
}
