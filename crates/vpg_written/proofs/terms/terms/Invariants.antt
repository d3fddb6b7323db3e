use Rattle.std.proofs.Common.{List}
use Rattle.vpg_requirement.specs.Actions.{ActionFormula}
use Rattle.vpg_written.specs.Terms.{AreSets}
use Rattle.vpg_written.specs.Entries.{AreMade}
use Rattle.vpg_written.proofs.terms.terms.Given as goal

abbrev pub invariant-loop-entry : goal.invariant-loop-entry
invariant-loop-entry l = (actions : List ActionFormula) → AreSets l.system.actions l.fn.sets.items actions → AreMade l.system.actions actions l.entries l.entry-index l.sets.items l.terms.items
