use Rattle.std.proofs.Common.{drop}
use Rattle.vpg_rules.specs.Constraint.{AreBelow}
use Rattle.vpg_rules.specs.View.{constraints_of}
use Rattle.vpg_rules.proofs.rule.+below.Given as goal

-- the parts from this place on are below
abbrev pub invariant-Rules::are_below-loop-place : goal.invariant-Rules::are_below-loop-place
invariant-Rules::are_below-loop-place l = AreBelow l.features (constraints_of (drop l.place l.self.items.items))
