use Rattle.std.proofs.Common.{◌∙◌}
use Rattle.std.specs.Arc.{arc_value}
use Rattle.vpg_report.proofs.Draws.{traced_after}
use Rattle.vpg_report.proofs.drawing.traced_after.Goals as goal

pub returns : goal.returns
returns g c =
    traced_after (arc_value c.args.family.now.diagram) (arc_value c.args.family.now.game) c.args.context.now c.args.script.now c.in_ok-ending.ending c.in_ok-ending.order c.in_ok-ending.ensures.left c.args.system.now c.args.word.now c.deref.result.now c.in_ok-picture.picture.items c.in_ok-picture.ensures
    (c.deref.ensures.value ∙ c.in_ok-line.ensures)
