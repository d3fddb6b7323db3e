use Rattle.vpg_requirement.specs.NormalForms.{NormalForm}
use Rattle.vpg_written.specs.Tasks.{Basis, IsAt, IsPlace, AreTerms}
use Rattle.vpg_written.proofs.opening.open_formula.Given as goal

abbrev pub invariant-entries : goal.invariant-entries
invariant-entries l = (g : Basis) (f : NormalForm) → AreTerms g l.terms → IsPlace g l.fn.place f → IsAt g l.term l.is_negated l.earlier l.scope.items f

abbrev pub decreases-entries : goal.decreases-entries
decreases-entries l = l.earlier
