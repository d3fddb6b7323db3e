use Rattle.std.proofs.Common.{ℕ, map, ap, refl, ◌∙◌}
use Rattle.std.proofs.lemmas.Result.{IfOk-weaker}
use Rattle.std.specs.Global.{Vec}
use Rattle.vpg_partial.specs.Known.{literal_of}
use Rattle.vpg_family.proofs.Choices.{below_choices}
use Rattle.vpg_family.proofs.Sights.{paged}
use Rattle.vpg_family.proofs.paged.page_drawn.Goals as goal

pub returns : goal.returns
returns c =
    IfOk-weaker _ _ _
    (λ (picture : Vec ℕ) is. paged c.args.subject c.args.order.now.diagram c.deref.result.now c.args.order.now.game c.deref-2.result.now (map literal_of c.args.order.now.decisions) c.known.result.now c.known.result.now c.decisions.result.now
    c.args.verdicts.now c.args.texts.now.diagram.items c.args.texts.now.game.items picture.items (rw (c.known.ensures, c.deref-3.ensures) c.games.ensures.known) is (c.deref.ensures ∙ c.diagram.ensures.diagram) (c.deref-2.ensures ∙ c.game.ensures.game) refl
    (ap (map literal_of) c.decisions.ensures.decisions)) c.sight_drawn.ensures

pub sight_drawn-requires-clause-decisions : goal.sight_drawn-requires-clause-decisions
sight_drawn-requires-clause-decisions c =
    rw (c.deref.ensures, c.diagram.ensures.diagram, c.decisions.ensures.decisions)
    (below_choices c.args.order.now.diagram.lines c.args.order.now.decisions c.diagram.ensures.order.named)
