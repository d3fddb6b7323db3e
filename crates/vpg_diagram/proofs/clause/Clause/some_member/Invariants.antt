use Rattle.std.proofs.Common.{◌≡◌, ◌++◌, ◌∷◌, map, drop}
use Rattle.vpg_diagram.specs.Clauses.{feature_in, feature_out}
use Rattle.vpg_diagram.proofs.clause.Clause.some_member.Given as goal

abbrev pub invariant-loop-member : goal.invariant-loop-member
invariant-loop-member l = l.literals.items ++ map feature_in (drop l.member-index l.members) ≡ feature_out l.parent ∷ map feature_in l.members
