use Rattle.std.specs.Arc.{arc_value}
use Rattle.std.proofs.Common.{◌≡◌, ℕ, map, ap, ◌∙◌}
use Rattle.std.proofs.lemmas.Result.{IfOk-weaker}
use Rattle.std.specs.Global.{Vec}
use Rattle.vpg_diagram.specs.DiagramText.{NamedDiagram}
use Rattle.vpg_measure.specs.Games.{GamesView}
use Rattle.vpg_trail.specs.Page.{literal_of}
use Rattle.vpg_report.proofs.Exports.{as_many, configured}
use Rattle.vpg_report.proofs.exporting.configuration.Goals as goal

pub returns : goal.returns
returns c =
    let order = c.args.order.now in
    let known : c.known.result.now ≡ (arc_value c.games.result.now).known = c.known.ensures ∙ ap (λ (g : GamesView). g.known) c.deref-2.ensures in
    let names : c.names-names.result.now ≡ order.diagram.names = c.names-names.ensures.names ∙ ap (λ (d : NamedDiagram). d.names) (c.deref.ensures ∙ c.diagram.ensures.diagram) in
    IfOk-weaker _ _ _
    (λ (text : Vec ℕ) is. configured c.args.form order.game order.diagram order.decisions c.decisions.result.now (arc_value c.games.result.now) c.known.result.now c.names-names.result.now text.items c.games.ensures is known names c.decisions.ensures.decisions) c.exported.ensures

pub exported-requires : goal.exported-requires
exported-requires c =
    let order = c.args.order.now in
    as_many order.game order.diagram (map literal_of order.decisions) (arc_value c.games.result.now) c.known.result.now c.names-names.result.now c.games.ensures (c.known.ensures ∙ ap (λ (g : GamesView). g.known) c.deref-2.ensures)
    (c.names-names.ensures.names ∙ ap (λ (d : NamedDiagram). d.names) (c.deref.ensures ∙ c.diagram.ensures.diagram))
