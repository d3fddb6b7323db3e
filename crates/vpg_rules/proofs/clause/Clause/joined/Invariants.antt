use Rattle.std.proofs.Common.{◌≡◌, ◌++◌, drop}
use Rattle.std.specs.Prelude.{not, filter}
use Rattle.vpg_rules.specs.Clauses.{has, joined}
use Rattle.vpg_rules.proofs.clause.Clause.joined.Given as goal

-- what is joined, and what is still to join, is the whole
abbrev pub invariant-loop-literal : goal.invariant-loop-literal
invariant-loop-literal l = l.literals.items ++ filter (λ m. not (has l.self m)) (drop l.literal-index l.literal-items) ≡ joined l.self l.other
