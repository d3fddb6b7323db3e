use Rattle.std.proofs.Common.{sym, ap, subst, ◌∙◌, List}
use Rattle.vpg_game.specs.Levels.{top_of}
use Rattle.vpg_game.specs.declared.levels.Level.{Level}
use Rattle.vpg_why.specs.Eased.{EachMeets}
use Rattle.vpg_why.specs.Explained.{choices}
use Rattle.vpg_why.specs.declared.question.Aim.{Aim}
use Rattle.vpg_why.proofs.Eased.{met_by_verdict}
use Rattle.vpg_why.proofs.Ordered.{made}
use Rattle.vpg_why.proofs.easing.eased.Goals as goal

pub returns-then-get-top : goal.returns-then-get-top
returns-then-get-top c =
    let order = c.args.order.now in
    let is = c.table.ensures.order in
    let inside = rw c.in-Won.is at c.requires in
    subst (λ (a : Aim). EachMeets order.game order.diagram (choices order.decisions) a) (sym c.in-Won.is)
    (met_by_verdict order.game order.diagram (choices order.decisions) c.in-Won.vertex is.game is.diagram is.named inside c.in-Won.which
    (rw c.opposite-verdict.ensures at (made order is c.opposite-verdict.result c.in-Won.vertex inside
    (sym (rw c.table.ensures.table at c.get.ensures) ∙ c.if-get-top.true ∙ c.top.ensures.top ∙ ap (λ (s : List Level). top_of s) c.shape.ensures))))
