use Rattle.std.proofs.Common.{ap, Err, map}
use Rattle.std.proofs.lemmas.Bool.{false≢true}
use Rattle.std.specs.Arc.{arc_value}
use Rattle.vpg_partial.specs.Known.{literal_of}
use Rattle.vpg_measure.specs.Games.{ArePageGames}
use Rattle.vpg_measure.specs.Orders.{IsOrder}
use Rattle.vpg_measure.proofs.OrderLemmas.{order_with, order_made}
use Rattle.vpg_measure.proofs.order.Order.of.Goals as goal

are : (c : goal.In-Ok) → ArePageGames (arc_value c.args.game) (arc_value c.args.diagram) (map literal_of c.args.decisions.items) (arc_value c.in-Ok.games)
are c = rw (c.deref.ensures, c.deref-2.ensures, c.deref-3.ensures.value) at c.in-Ok.ensures.games

made : (c : goal.In-Ok) → IsOrder (order_with (arc_value c.args.game) (arc_value c.args.diagram) c.args.decisions.items (arc_value c.in-Ok.games) c.args.hopeful c.args.dual c.in-Ok.hopeful_room c.in-Ok.dual_room)
made c = order_made (arc_value c.args.game) (arc_value c.args.diagram) c.args.decisions.items (arc_value c.in-Ok.games) c.args.hopeful c.args.dual c.in-Ok.hopeful_room c.in-Ok.dual_room
    c.requires.features c.requires.named c.requires.hopeful c.requires.dual (are c)
    (rw c.deref.ensures at c.in-Ok.ensures.hopeful) (rw c.deref.ensures at c.in-Ok.ensures.dual)

pub invariant_of-result : goal.invariant_of-result
invariant_of-result c = record { order = made c; games = are c; noted = λ t. absurd (false≢true t) }

pub returns-in-Ok-clause-order : goal.returns-in-Ok-clause-order
returns-in-Ok-clause-order c = made c

pub returns-in-Err-clause-at_limit : goal.returns-in-Err-clause-at_limit
returns-in-Err-clause-at_limit c =
    let at_limit = rw c.deref.ensures at c.in-Err.ensures.at_limit in
    (λ e. at_limit.0 (ap Err e), λ h. (let e = at_limit.1 h in cc))

pub returns-in-Err-clause-conflict : goal.returns-in-Err-clause-conflict
returns-in-Err-clause-conflict c f e = (rw (c.deref-2.ensures, c.deref-3.ensures.value) at c.in-Err.ensures.conflict) f (ap Err e)
