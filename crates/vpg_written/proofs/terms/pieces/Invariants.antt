use Rattle.std.proofs.Common.{List, [], take}
use Rattle.vpg_requirement.specs.Actions.{ActionFormula}
use Rattle.vpg_written.specs.Terms.{AreSets}
use Rattle.vpg_written.specs.Parsing.{parsed, IsMade}
use Rattle.vpg_written.proofs.terms.pieces.Given as goal

abbrev pub invariant-loop-mark : goal.invariant-loop-mark
invariant-loop-mark l = (actions : List ActionFormula) → AreSets l.system.actions l.fn.sets.items actions → IsMade l.system.actions actions (parsed [] (take l.mark-index l.marks)) l.sets.items l.pieces.items
