use Rattle.std.proofs.Common.{◌≡◌, map, take}
use Rattle.vpg_hope.specs.Arena.{vertex_at}
use Rattle.vpg_measure.specs.Orders.{order_arena}
use Rattle.vpg_board.specs.Seats.{SeesMore, IsSafe}
use Rattle.vpg_board.specs.Taken.{IsOnBoard, TakesAll, load_of}
use Rattle.vpg_board.specs.Loading.{best_of}
use Rattle.vpg_board.proofs.board.Board.loaded_lift.Given as goal

abbrev pub invariant-loop-successor : goal.invariant-loop-successor
invariant-loop-successor l = record {
  table : l.seat.table_id ≡ l.initial.seat.table_id;
  slots : l.seat.me.1 ≡ l.initial.seat.me.1;
  sees : SeesMore l.initial.seat.me.0 l.seat.me.0;
  safe : IsSafe l.seat.me.0;
  run : IsOnBoard l.seat.me.0;
  steps : TakesAll (map (load_of l.self-inside.order l.which) (take l.successor-index (vertex_at (order_arena l.which l.self-inside.order) l.v).successors)) l.initial.seat.me.0 l.seat.me.0;
  best : l.best ≡ best_of l.self-inside.order l.which l.seat.me.0.seen l.v l.successor-index;
}
