use Rattle.std.proofs.Common.{refl}
use Rattle.vpg_why.specs.Explained.{choices}
use Rattle.vpg_winners.proofs.Learned.{none_met}
use Rattle.vpg_winners.proofs.gathering.findings_of.Goals as goal

pub returns-in_ok-found-in-None-clause-findings : goal.returns-in_ok-found-in-None-clause-findings
returns-in_ok-found-in-None-clause-findings c aim met =
    let order = c.args.order.now in
    let count = rw (c.deref-in-None.ensures, c.diagram.ensures.diagram) at c.features.ensures.count in
    c.in_ok-found-in-None.ensures order.game order.diagram aim (choices order.decisions) count
    (none_met order.game order.diagram aim (choices order.decisions) c.args.sets.now c.args.set met
    ((rw c.in-None.is at c.in_ok-product.ensures.none) refl))
