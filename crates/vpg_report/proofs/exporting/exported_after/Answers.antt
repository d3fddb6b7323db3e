use Rattle.std.specs.Arc.{arc_value}
use Rattle.vpg_report.proofs.Exports.{exported_left}
use Rattle.vpg_report.proofs.Left.{unleft_memory}
use Rattle.vpg_report.proofs.exporting.exported_after.Goals as goal

pub returns-in-Ok-clause-exported : goal.returns-in-Ok-clause-exported
returns-in-Ok-clause-exported g c =
    exported_left (arc_value c.args.family.now.diagram) (arc_value c.args.family.now.game) c.args.context.now c.args.script.now c.in_ok-ending.ending c.in_ok-ending.order c.args.form c.in-Ok.text.items c.in_ok-ending.ensures.left c.in-Ok.ensures

pub returns-clause-refused : goal.returns-clause-refused
returns-clause-refused g c = unleft_memory (arc_value c.args.family.now.diagram) (arc_value c.args.family.now.game) c.args.context.now c.args.script.now
