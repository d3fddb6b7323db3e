-- An order by its fields.
use Rattle.std.specs.Prelude.{map, IsTrue}
use Rattle.std.specs.Arc.{arc_value}
use Rattle.vpg_partial.specs.Known.{literal_of}
use Rattle.vpg_measure.specs.declared.order.Order.TheInside.{Inside}
use Rattle.vpg_measure.specs.Games.{ArePageGames}
use Rattle.vpg_measure.specs.Orders.{OrderView, IsOrder, IsSettledOrder}

abbrev pub order_of : Inside → OrderView
order_of fields = record {
  game = arc_value fields.game;
  diagram = arc_value fields.diagram;
  decisions = fields.decisions.items;
  known = (arc_value fields.games).known;
  hopeful = fields.hopeful;
  dual = fields.dual;
  hopeful_room = fields.hopeful_room;
  dual_room = fields.dual_room;
}

pub record AreFields (fields : Inside) : Type 0 where
  pub order : IsOrder (order_of fields)
  pub games : ArePageGames (arc_value fields.game) (arc_value fields.diagram) (map literal_of fields.decisions.items)
      (arc_value fields.games)
  -- the note is true
  pub noted : IsTrue fields.is_noted → IsSettledOrder (order_of fields)
