use Rattle.std.specs.Arc.{arc_value}
use Rattle.vpg_report.proofs.Left.{out_of_memory}
use Rattle.vpg_report.proofs.leaving.left_by.Goals as goal

pub returns-in_default-clause-stopped : goal.returns-in_default-clause-stopped
returns-in_default-clause-stopped g c = out_of_memory (arc_value c.args.diagram) (arc_value c.args.game) c.args.context.now c.args.script.now
