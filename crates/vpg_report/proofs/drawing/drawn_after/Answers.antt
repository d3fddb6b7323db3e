use Rattle.std.specs.Arc.{arc_value}
use Rattle.vpg_report.proofs.Draws.{drawn}
use Rattle.vpg_report.proofs.Left.{unleft_memory}
use Rattle.vpg_report.proofs.drawing.drawn_after.Goals as goal

pub returns-in-Ok-clause-drawn : goal.returns-in-Ok-clause-drawn
returns-in-Ok-clause-drawn g c =
    drawn (arc_value c.args.family.now.diagram) (arc_value c.args.family.now.game) c.args.context.now c.args.script.now c.in_ok-ending.ending c.in_ok-ending.order c.in_ok-ending.ensures.left c.args.subject c.args.texts.now.diagram.items c.args.texts.now.game.items c.in-Ok.picture.items c.in-Ok.ensures

pub returns-clause-refused : goal.returns-clause-refused
returns-clause-refused g c = unleft_memory (arc_value c.args.family.now.diagram) (arc_value c.args.family.now.game) c.args.context.now c.args.script.now
