use Rattle.std.proofs.Common.{sym, ◌∙◌}
use Rattle.vpg_why.specs.Explained.{choices}
use Rattle.vpg_winners.proofs.Tried.{some_first}
use Rattle.vpg_winners.proofs.trying.first_in_set.Goals as goal

pub returns : goal.returns
returns c =
    let order = c.args.order.now in
    let left = rw (c.deref-2.ensures, c.diagram-2.ensures.diagram, c.decisions.ensures.decisions) at
    c.in_ok-left.ensures.products in
    let features = rw (c.deref.ensures, c.diagram.ensures.diagram) at c.features-features.ensures.count in
    some_first order.diagram (choices order.decisions) c.remaining.new.sets c.in_ok-left.left c.in_ok-first.first
    (sym (c.in_ok-left.ensures.features ∙ (c.in_ok-sets.ensures.features ∙ features))) left
    c.in_ok-first.ensures.some
