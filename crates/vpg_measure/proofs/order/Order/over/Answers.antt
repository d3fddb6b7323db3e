use Rattle.std.proofs.lemmas.Bool.{false≢true}
use Rattle.std.specs.Arc.{arc_value}
use Rattle.vpg_measure.proofs.OrderLemmas.{order_made}
use Rattle.vpg_measure.proofs.order.Order.over.Goals as goal

pub invariant_of-result : goal.invariant_of-result
invariant_of-result c =
    let rooms = c.in_ok-hopeful_room in
    record {
      order = order_made (arc_value c.args.game) (arc_value c.args.diagram) c.args.decisions.items (arc_value c.args.games) c.args.hopeful c.args.dual rooms.hopeful_room rooms.dual_room
          c.requires.features c.requires.named c.requires.hopeful c.requires.dual c.requires.games (rw c.deref.ensures at rooms.ensures.hopeful) (rw c.deref.ensures at rooms.ensures.dual);
      games = c.requires.games;
      noted = λ t. absurd (false≢true t);
    }

pub returns-clause-order : goal.returns-clause-order
returns-clause-order c =
    let rooms = c.in_ok-hopeful_room in
    order_made (arc_value c.args.game) (arc_value c.args.diagram) c.args.decisions.items (arc_value c.args.games) c.args.hopeful c.args.dual rooms.hopeful_room rooms.dual_room
    c.requires.features c.requires.named c.requires.hopeful c.requires.dual c.requires.games (rw c.deref.ensures at rooms.ensures.hopeful) (rw c.deref.ensures at rooms.ensures.dual)
