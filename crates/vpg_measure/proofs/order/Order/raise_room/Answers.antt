use Rattle.std.proofs.Common.{◌≡◌, ◌<◌, ℕ, Bool, List, sym, subst}
use Rattle.std.specs.Prelude.{sum, MatchBool}
use Rattle.vpg_game.specs.declared.levels.Level.{Level}
use Rattle.vpg_hope.specs.Games.{Game}
use Rattle.vpg_sides.specs.declared.which.Which.{Which}
use Rattle.vpg_sides.specs.declared.which.Which.TheVariants.{Hopeful, Dual}
use Rattle.vpg_measure.specs.Lifts.{raised}
use Rattle.vpg_measure.specs.OrderFields.{order_of}
use Rattle.vpg_measure.specs.Orders.{OrderView, order_room, with_room}
use Rattle.vpg_measure.proofs.OrderGames.{own_levels, own_arena, room_table, room_vertex}
use Rattle.vpg_measure.proofs.OrderLemmas.{room_put, room_count, room_changed, still_settled}
use Rattle.vpg_measure.proofs.order.Order.raise_room.Goals as goal

-- whether the sum rose tells the same of the table in the room
told : (which : Which) (order now : OrderView) (b : Bool) (room : List ℕ) → order ≡ now → MatchBool b (sum (order_room which order) < sum room) (room ≡ order_room which order)
    → MatchBool b (sum (order_room which now) < sum (order_room which (with_room which room order))) (order_room which (with_room which room order) ≡ order_room which now)
told Hopeful order now b room e h = subst (λ (o : OrderView). MatchBool b (sum o.hopeful_room < sum room) (room ≡ o.hopeful_room)) e h
told Dual order now b room e h = subst (λ (o : OrderView). MatchBool b (sum o.dual_room < sum room) (room ≡ o.dual_room)) e h

pub invariant_of-self : goal.invariant_of-self
invariant_of-self c = record {
  order = room_put (order_of c.self.inside) c.raise.new.table c.self.inside.dual_room c.self.invariant.order
      (room_count (order_of c.self.inside) c.args.which c.arena-arena.result.now c.raise.new.table (own_arena c.self.inside c.self.invariant c.deref-2.result.now c.deref-2.ensures c.args.which c.arena-arena.result.now c.arena-arena.ensures) c.raise.ensures.table.len)
      c.self.invariant.order.dual_room;
  games = c.self.invariant.games;
  noted = λ t. still_settled (order_of c.self.inside) c.raise.new.table c.self.inside.dual_room (c.self.invariant.noted t);
}

pub returns-in-Hopeful-clause-raised : goal.returns-in-Hopeful-clause-raised
returns-in-Hopeful-clause-raised c =
    room_changed (λ (l : List Level) (g : Game) (t : List ℕ). raised l g t c.args.v) (order_of c.self.inside) c.args.self.now c.args.which Hopeful
    c.shape-shape.result.now c.arena-arena.result.now c.raise.new.table (own_levels c.self.inside c.self.invariant c.deref.result.now c.deref.ensures c.args.which c.shape-shape.result.now c.shape-shape.ensures)
    (own_arena c.self.inside c.self.invariant c.deref-2.result.now c.deref-2.ensures c.args.which c.arena-arena.result.now c.arena-arena.ensures) c.in-Hopeful.is c.raise.ensures.raised c.self.view_is

pub invariant_of-self-in-Dual : goal.invariant_of-self-in-Dual
invariant_of-self-in-Dual c = record {
  order = room_put (order_of c.self.inside) c.self.inside.hopeful_room c.raise-in-Dual.new.table c.self.invariant.order
      c.self.invariant.order.hopeful_room
      (room_count (order_of c.self.inside) c.args.which c.arena-arena.result.now c.raise-in-Dual.new.table (own_arena c.self.inside c.self.invariant c.deref-2.result.now c.deref-2.ensures c.args.which c.arena-arena.result.now c.arena-arena.ensures) c.raise-in-Dual.ensures.table.len);
  games = c.self.invariant.games;
  noted = λ t. still_settled (order_of c.self.inside) c.self.inside.hopeful_room c.raise-in-Dual.new.table (c.self.invariant.noted t);
}

pub returns-in-Dual-clause-raised : goal.returns-in-Dual-clause-raised
returns-in-Dual-clause-raised c =
    room_changed (λ (l : List Level) (g : Game) (t : List ℕ). raised l g t c.args.v) (order_of c.self.inside) c.args.self.now c.args.which Dual
    c.shape-shape.result.now c.arena-arena.result.now c.raise-in-Dual.new.table (own_levels c.self.inside c.self.invariant c.deref.result.now c.deref.ensures c.args.which c.shape-shape.result.now c.shape-shape.ensures)
    (own_arena c.self.inside c.self.invariant c.deref-2.result.now c.deref-2.ensures c.args.which c.arena-arena.result.now c.arena-arena.ensures) c.in-Dual.is c.raise-in-Dual.ensures.raised c.self.view_is

pub returns-in-Hopeful-clause-rose : goal.returns-in-Hopeful-clause-rose
returns-in-Hopeful-clause-rose c =
    subst (λ (w : Which). MatchBool c.raise.result (sum (order_room w c.args.self.now) < sum (order_room w (with_room Hopeful c.raise.new.table (order_of c.self.inside))))
    (order_room w (with_room Hopeful c.raise.new.table (order_of c.self.inside)) ≡ order_room w c.args.self.now)) (sym c.in-Hopeful.is)
    (told Hopeful (order_of c.self.inside) c.args.self.now c.raise.result c.raise.new.table c.self.view_is c.raise.ensures.rose)

pub returns-in-Dual-clause-rose : goal.returns-in-Dual-clause-rose
returns-in-Dual-clause-rose c =
    subst (λ (w : Which). MatchBool c.raise-in-Dual.result (sum (order_room w c.args.self.now) < sum (order_room w (with_room Dual c.raise-in-Dual.new.table (order_of c.self.inside))))
    (order_room w (with_room Dual c.raise-in-Dual.new.table (order_of c.self.inside)) ≡ order_room w c.args.self.now)) (sym c.in-Dual.is)
    (told Dual (order_of c.self.inside) c.args.self.now c.raise-in-Dual.result c.raise-in-Dual.new.table c.self.view_is c.raise-in-Dual.ensures.rose)

pub raise-requires-clause-vertex : goal.raise-requires-clause-vertex
raise-requires-clause-vertex c =
    room_vertex c.args.which Hopeful (order_of c.self.inside) c.args.self.now c.shape-shape.result.now c.arena-arena.result.now c.self.view_is c.in-Hopeful.is
    (own_levels c.self.inside c.self.invariant c.deref.result.now c.deref.ensures c.args.which c.shape-shape.result.now c.shape-shape.ensures)
    (own_arena c.self.inside c.self.invariant c.deref-2.result.now c.deref-2.ensures c.args.which c.arena-arena.result.now c.arena-arena.ensures) c.requires.table c.args.v c.requires.vertex

pub raise-requires-clause-table : goal.raise-requires-clause-table
raise-requires-clause-table c =
    room_table c.args.which Hopeful (order_of c.self.inside) c.args.self.now c.shape-shape.result.now c.arena-arena.result.now c.self.view_is c.in-Hopeful.is
    (own_levels c.self.inside c.self.invariant c.deref.result.now c.deref.ensures c.args.which c.shape-shape.result.now c.shape-shape.ensures)
    (own_arena c.self.inside c.self.invariant c.deref-2.result.now c.deref-2.ensures c.args.which c.arena-arena.result.now c.arena-arena.ensures) c.requires.table

pub raise-requires-in-Dual-clause-vertex : goal.raise-requires-in-Dual-clause-vertex
raise-requires-in-Dual-clause-vertex c =
    room_vertex c.args.which Dual (order_of c.self.inside) c.args.self.now c.shape-shape.result.now c.arena-arena.result.now c.self.view_is c.in-Dual.is
    (own_levels c.self.inside c.self.invariant c.deref.result.now c.deref.ensures c.args.which c.shape-shape.result.now c.shape-shape.ensures)
    (own_arena c.self.inside c.self.invariant c.deref-2.result.now c.deref-2.ensures c.args.which c.arena-arena.result.now c.arena-arena.ensures) c.requires.table c.args.v c.requires.vertex

pub raise-requires-in-Dual-clause-table : goal.raise-requires-in-Dual-clause-table
raise-requires-in-Dual-clause-table c =
    room_table c.args.which Dual (order_of c.self.inside) c.args.self.now c.shape-shape.result.now c.arena-arena.result.now c.self.view_is c.in-Dual.is
    (own_levels c.self.inside c.self.invariant c.deref.result.now c.deref.ensures c.args.which c.shape-shape.result.now c.shape-shape.ensures)
    (own_arena c.self.inside c.self.invariant c.deref-2.result.now c.deref-2.ensures c.args.which c.arena-arena.result.now c.arena-arena.ensures) c.requires.table
