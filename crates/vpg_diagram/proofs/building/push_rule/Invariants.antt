use Rattle.std.proofs.Common.{◌≡◌, ◌++◌, map, drop}
use Rattle.vpg_diagram.specs.Clauses.{rule_clause}
use Rattle.vpg_diagram.proofs.building.push_rule.Given as goal

abbrev pub invariant-loop-part : goal.invariant-loop-part
invariant-loop-part l =
    l.clauses.items ++ map rule_clause (drop l.part-index l.part-items) ≡ l.initial.clauses.items ++ map rule_clause l.part-items
