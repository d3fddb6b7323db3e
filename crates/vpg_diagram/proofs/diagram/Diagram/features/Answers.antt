use Rattle.std.proofs.Common.{arith}
use Rattle.std.proofs.lemmas.Grind.{common_steps}
use Rattle.vpg_diagram.proofs.diagram.Diagram.features.Goals as goal

pub returns-clause-diagram : goal.returns-clause-diagram
returns-clause-diagram c = grind (arith, common_steps)
