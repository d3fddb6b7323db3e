use Rattle.std.proofs.Common.{ℕ, ap, ◌∙◌, []}
use Rattle.std.specs.Prelude.{◌<◌, length}
use Rattle.vpg_diagram.specs.DiagramText.{NamedDiagram}
use Rattle.vpg_looks.specs.Answers.{IsOver}
use Rattle.vpg_script.specs.View.{command_shown, request_shown}
use Rattle.vpg_texts.specs.Scene.{scene_of}
use Rattle.vpg_report.specs.Draws.{AsksTrace}
use Rattle.vpg_report.proofs.Draws.{found_some, request_asks, within_copies}
use Rattle.vpg_report.proofs.drawing.vertex_meant.Goals as goal

pub returns-in-Ok-Some-clause-asked : goal.returns-in-Ok-Some-clause-asked
returns-in-Ok-Some-clause-asked c =
    let same_diagram = c.deref-3.ensures ∙ c.diagram-diagram.ensures.diagram in
    let names = c.names.ensures.names ∙ ap (λ (d : NamedDiagram). d.names) (c.deref.ensures ∙ c.diagram-diagram.ensures.diagram) in
    let asks = found_some c.in_ok-vertex.field-0 c.in-Ok-Some.field-0 c.in-Ok-Some.vertex (AsksTrace c.args.context.now.behaviour (scene_of [] c.deref-2.result.now c.deref-3.result.now) (command_shown c.in_ok-said.said.command))
    c.in-Ok-Some.is c.in-Ok-Some.field-0-is c.in_ok-vertex.ensures.asked in
    request_asks c.args.context.now c.args.order.now.game c.deref-2.result.now c.args.order.now.diagram c.deref-3.result.now c.names.result.now (request_shown c.args.request.now) (request_shown c.in_ok-said.said) c.in-Ok-Some.vertex
    (c.deref-2.ensures ∙ c.game.ensures.game) same_diagram names c.in_ok-said.ensures asks

pub returns-in-Ok-Some-clause-within : goal.returns-in-Ok-Some-clause-within
returns-in-Ok-Some-clause-within c =
    let same_diagram = c.deref-3.ensures ∙ c.diagram-diagram.ensures.diagram in
    let within = found_some c.in_ok-vertex.field-0 c.in-Ok-Some.field-0 c.in-Ok-Some.vertex (λ (v : ℕ). (v < length c.deref-2.result.now.vertices) × IsOver (length c.deref-3.result.now.names) c.args.context.now.behaviour)
    c.in-Ok-Some.is c.in-Ok-Some.field-0-is c.in_ok-vertex.ensures.within in
    within_copies c.args.order.now c.deref-2.result.now c.deref-3.result.now c.args.context.now.behaviour c.in-Ok-Some.vertex c.diagram-diagram.ensures.order (c.deref-2.ensures ∙ c.game.ensures.game) same_diagram within
