use Rattle.std.proofs.Common.{◌≡◌, ◌++◌, map, drop}
use Rattle.vpg_diagram.specs.Clauses.{literal_of}
use Rattle.vpg_diagram.proofs.clause.Clause.of_rule.Given as goal

abbrev pub invariant-loop-literal : goal.invariant-loop-literal
invariant-loop-literal l = l.literals.items ++ map literal_of (drop l.literal-index l.literal-items) ≡ map literal_of l.literal-items
