use Rattle.std.proofs.Common.{Option, Ok, subst}
use Rattle.std.proofs.lemmas.Result.{IfOk-weaker}
use Rattle.vpg_script.specs.Script.{said}
use Rattle.vpg_script.specs.View.{Says, request_shown}
use Rattle.vpg_script.specs.declared.command.Request.{Request}
use Rattle.vpg_report.proofs.drawing.vertex_of.Goals as goal

pub returns-in-Ok-Some-clause-asked : goal.returns-in-Ok-Some-clause-asked
returns-in-Ok-Some-clause-asked c =
    let says = subst (λ (o : Option Request). Says (Ok o) (said c.args.line.now)) c.in-Ok-Some.field-0-is c.in-Ok-Some.ensures in
    IfOk-weaker c.vertex_meant.result _ _ (λ vertex asks. (request_shown c.in-Ok-Some.request, (says, asks))) c.vertex_meant.ensures.asked
