use Rattle.std.proofs.Common.{arith}
use Rattle.std.proofs.lemmas.Grind.{common_steps}
use Rattle.vpg_diagram.proofs.diagram.Diagram.is_same.Goals as goal

pub same_lines-requires-clause-lines : goal.same_lines-requires-clause-lines
same_lines-requires-clause-lines c = grind (arith, common_steps)

pub same_lines-requires-clause-others : goal.same_lines-requires-clause-others
same_lines-requires-clause-others c = grind (arith, common_steps)
