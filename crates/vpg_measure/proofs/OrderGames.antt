-- The games of an order's page, by the order's fields.
use Rattle.std.proofs.Common.{◌≡◌, ℕ, ◌<◌, List, length, sym, ap, subst, arith}
use Rattle.std.specs.Arc.{arc_value}
use Rattle.std.specs.Prelude.{map}
use Rattle.vpg_game.specs.declared.levels.Level.{Level}
use Rattle.vpg_hope.specs.Games.{Game}
use Rattle.vpg_partial.specs.Known.{literal_of}
use Rattle.vpg_measure.specs.declared.order.Order.TheInside.{Inside}
use Rattle.vpg_sides.specs.declared.which.Which.{Which}
use Rattle.vpg_measure.specs.Games.{GamesView, games_levels, games_arena}
use Rattle.vpg_measure.specs.OrderFields.{order_of, AreFields}
use Rattle.vpg_measure.specs.Lifts.{IsTableOf}
use Rattle.vpg_measure.specs.Orders.{OrderView, order_levels, order_arena, order_room}
use Rattle.vpg_measure.proofs.OrderLemmas.{levels_read, arena_read, room_count}

module _ (fields : Inside) (are : AreFields fields) (read : GamesView) (same : read ≡ arc_value fields.games) (which : Which) where
  pub own_levels : (shape : List Level) → shape ≡ games_levels which read → shape ≡ order_levels which (order_of fields)
  own_levels = levels_read (arc_value fields.game) (arc_value fields.diagram) (map literal_of fields.decisions.items) (arc_value fields.games) read are.games same which

  pub own_arena : (arena : Game) → arena ≡ games_arena which read → arena ≡ order_arena which (order_of fields)
  own_arena = arena_read (arc_value fields.game) (arc_value fields.diagram) (map literal_of fields.decisions.items) (arc_value fields.games) read are.games same which

-- the table in the room, over the levels and the kept edges that were read
module _ (which side : Which) (order now : OrderView) (levels : List Level) (arena : Game) (view_is : order ≡ now) (is : which ≡ side)
    (same_levels : levels ≡ order_levels which order) (same_arena : arena ≡ order_arena which order) (table : IsTableOf (order_levels which now) (order_arena which now) (order_room which now)) where
  pub room_table : IsTableOf levels arena (order_room side order)
  room_table =
      let own : IsTableOf (order_levels which order) (order_arena which order) (order_room which order) =
      subst (λ (o : OrderView). IsTableOf (order_levels which o) (order_arena which o) (order_room which o)) (sym view_is) table in
      let sided : IsTableOf (order_levels which order) (order_arena which order) (order_room side order) =
      subst (λ (w : Which). IsTableOf (order_levels which order) (order_arena which order) (order_room w order)) is own in
      subst (λ (l : List Level). IsTableOf l arena (order_room side order)) (sym same_levels)
      (subst (λ (g : Game). IsTableOf (order_levels which order) g (order_room side order)) (sym same_arena) sided)

  pub room_vertex : (v : ℕ) → v < length now.game.vertices → v < length arena
  room_vertex v less =
      let count : length (order_room side order) ≡ length order.game.vertices = room_count order which arena (order_room side order) same_arena room_table.len in
      let same : length order.game.vertices ≡ length now.game.vertices = ap (λ (o : OrderView). length o.game.vertices) view_is in
      omega (arith, count, same, less, room_table.len)
