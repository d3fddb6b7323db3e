use Rattle.std.proofs.Common.{ℕ, List, map, ◌∙◌, subst}
use Rattle.std.proofs.lemmas.Result.{IfOk-weaker}
use Rattle.std.specs.Global.{Vec}
use Rattle.vpg_sides.specs.declared.verdict.Verdict.{Verdict}
use Rattle.vpg_trail.specs.Page.{literal_of}
use Rattle.vpg_family.specs.Pages.{IsPageDrawn}
use Rattle.vpg_report.proofs.drawing.picture.Goals as goal

pub returns : goal.returns
returns c =
    let order = c.args.order.now in
    IfOk-weaker _ _ _
    (λ (picture : Vec ℕ) is. subst (λ (verdicts : List Verdict). IsPageDrawn c.args.subject order.diagram order.game (map literal_of order.decisions) verdicts c.args.texts.now.diagram.items c.args.texts.now.game.items picture.items)
    (c.deref.ensures.value ∙ c.in_ok-verdicts.ensures.verdicts) is) c.page_drawn.ensures
