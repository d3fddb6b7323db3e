use Rattle.vpg_diagram.specs.FeatureDiagram.{feature_count}
use Rattle.vpg_why.specs.Explained.{choices}
use Rattle.vpg_why.specs.declared.question.Aim.TheVariants as aims
use Rattle.vpg_winners.proofs.Tried.{are_named, tried_found}
use Rattle.vpg_winners.proofs.trying.first_tried.Goals as goal

pub outlook_of-requires-clause-named : goal.outlook_of-requires-clause-named
outlook_of-requires-clause-named c =
    let order = c.args.order.now in
    rw c.deref-2.ensures.value (are_named order.diagram.lines (choices order.decisions)
    (choices c.in_ok-decisions.decisions.items) c.in-Some.first.items
    (rw c.deref.ensures.value at c.in_ok-decisions.ensures) c.game-order.ensures.order.named)

pub returns-in-Met-clause-found : goal.returns-in-Met-clause-found
returns-in-Met-clause-found c =
    let order = c.args.order.now in
    let both = rw (c.in-Met.is, c.deref-2.ensures.value) at c.in_ok-features.ensures in
    rw c.won.ensures (tried_found order.game order.diagram (aims.Won c.args.which c.args.vertex)
    (choices order.decisions) (choices c.in_ok-decisions.decisions.items) c.in-Some.first.items c.in-Met.features.items
    (feature_count order.diagram.lines) (rw c.deref.ensures.value at c.in_ok-decisions.ensures)
    (rw c.in-Some.is at c.in_ok-first.ensures) both.0 both.1)
