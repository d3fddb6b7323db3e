use Rattle.std.proofs.Common.{drop, true, false}
use Rattle.vpg_rules.specs.Clauses.{each_when, some_when}
use Rattle.vpg_rules.specs.Distributing.{AreLimited}
use Rattle.vpg_rules.specs.View.{constraints_of}
use Rattle.vpg_rules.proofs.rule.+normal.Given as goal

-- the clauses of the parts from this place on
abbrev pub invariant-Rules::all_forms-loop-place : goal.invariant-Rules::all_forms-loop-place
invariant-Rules::all_forms-loop-place l =
    let rest = constraints_of (drop l.place l.self.items.items) in AreLimited l.whole (each_when true rest) (some_when false rest)

abbrev pub invariant-Rules::any_forms-loop-place : goal.invariant-Rules::any_forms-loop-place
invariant-Rules::any_forms-loop-place l =
    let rest = constraints_of (drop l.place l.self.items.items) in AreLimited l.whole (some_when true rest) (each_when false rest)
