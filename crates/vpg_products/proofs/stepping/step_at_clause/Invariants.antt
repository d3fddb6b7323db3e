use Rattle.std.proofs.Common.{take}
use Rattle.vpg_products.proofs.Rules.{IsScanned}
use Rattle.vpg_products.proofs.stepping.step_at_clause.Given as goal

abbrev pub invariant-loop-literal : goal.invariant-loop-literal
invariant-loop-literal l = IsScanned l.known (take l.literal-index l.literals) l.open
