use Rattle.std.proofs.Common.{◌≡◌, drop}
use Rattle.vpg_rules.specs.View.{constraints_of}
use Rattle.vpg_rules.proofs.rule.+same.Given as goal

-- the parts from this place on are the same
abbrev pub invariant-Rules::are_same-loop-place : goal.invariant-Rules::are_same-loop-place
invariant-Rules::are_same-loop-place l =
    constraints_of (drop l.place l.self.items.items) ≡ constraints_of (drop l.place l.other.items.items)
