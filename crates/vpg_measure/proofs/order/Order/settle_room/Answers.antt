use Rattle.std.proofs.Common.{ℕ, List}
use Rattle.vpg_game.specs.declared.levels.Level.{Level}
use Rattle.vpg_hope.specs.Games.{Game}
use Rattle.vpg_sides.specs.declared.which.Which.TheVariants.{Hopeful, Dual}
use Rattle.vpg_measure.specs.Lifts.{after_rounds}
use Rattle.vpg_measure.specs.OrderFields.{order_of}
use Rattle.vpg_measure.proofs.OrderGames.{own_levels, own_arena, room_table}
use Rattle.vpg_measure.proofs.OrderLemmas.{room_put, room_count, room_changed, still_settled}
use Rattle.vpg_measure.proofs.order.Order.settle_room.Goals as goal

pub invariant_of-self : goal.invariant_of-self
invariant_of-self c = record {
  order = room_put (order_of c.self.inside) c.settle_alone.new.table c.self.inside.dual_room c.self.invariant.order
      (room_count (order_of c.self.inside) c.args.which c.arena-arena.result.now c.settle_alone.new.table (own_arena c.self.inside c.self.invariant c.deref-2.result.now c.deref-2.ensures c.args.which c.arena-arena.result.now c.arena-arena.ensures) c.settle_alone.ensures.table.len)
      c.self.invariant.order.dual_room;
  games = c.self.invariant.games;
  noted = λ t. still_settled (order_of c.self.inside) c.settle_alone.new.table c.self.inside.dual_room (c.self.invariant.noted t);
}

pub returns-in-Hopeful : goal.returns-in-Hopeful
returns-in-Hopeful c =
    room_changed (λ (l : List Level) (g : Game) (t : List ℕ). after_rounds l g c.args.rounds t) (order_of c.self.inside) c.args.self.now c.args.which Hopeful
    c.shape-shape.result.now c.arena-arena.result.now c.settle_alone.new.table (own_levels c.self.inside c.self.invariant c.deref.result.now c.deref.ensures c.args.which c.shape-shape.result.now c.shape-shape.ensures)
    (own_arena c.self.inside c.self.invariant c.deref-2.result.now c.deref-2.ensures c.args.which c.arena-arena.result.now c.arena-arena.ensures) c.in-Hopeful.is c.settle_alone.ensures.after c.self.view_is

pub invariant_of-self-in-Dual : goal.invariant_of-self-in-Dual
invariant_of-self-in-Dual c = record {
  order = room_put (order_of c.self.inside) c.self.inside.hopeful_room c.settle_alone-in-Dual.new.table c.self.invariant.order
      c.self.invariant.order.hopeful_room
      (room_count (order_of c.self.inside) c.args.which c.arena-arena.result.now c.settle_alone-in-Dual.new.table (own_arena c.self.inside c.self.invariant c.deref-2.result.now c.deref-2.ensures c.args.which c.arena-arena.result.now c.arena-arena.ensures) c.settle_alone-in-Dual.ensures.table.len);
  games = c.self.invariant.games;
  noted = λ t. still_settled (order_of c.self.inside) c.self.inside.hopeful_room c.settle_alone-in-Dual.new.table (c.self.invariant.noted t);
}

pub returns-in-Dual : goal.returns-in-Dual
returns-in-Dual c =
    room_changed (λ (l : List Level) (g : Game) (t : List ℕ). after_rounds l g c.args.rounds t) (order_of c.self.inside) c.args.self.now c.args.which Dual
    c.shape-shape.result.now c.arena-arena.result.now c.settle_alone-in-Dual.new.table (own_levels c.self.inside c.self.invariant c.deref.result.now c.deref.ensures c.args.which c.shape-shape.result.now c.shape-shape.ensures)
    (own_arena c.self.inside c.self.invariant c.deref-2.result.now c.deref-2.ensures c.args.which c.arena-arena.result.now c.arena-arena.ensures) c.in-Dual.is c.settle_alone-in-Dual.ensures.after c.self.view_is

pub settle_alone-requires : goal.settle_alone-requires
settle_alone-requires c =
    room_table c.args.which Hopeful (order_of c.self.inside) c.args.self.now c.shape-shape.result.now c.arena-arena.result.now c.self.view_is c.in-Hopeful.is
    (own_levels c.self.inside c.self.invariant c.deref.result.now c.deref.ensures c.args.which c.shape-shape.result.now c.shape-shape.ensures)
    (own_arena c.self.inside c.self.invariant c.deref-2.result.now c.deref-2.ensures c.args.which c.arena-arena.result.now c.arena-arena.ensures) c.requires

pub settle_alone-requires-in-Dual : goal.settle_alone-requires-in-Dual
settle_alone-requires-in-Dual c =
    room_table c.args.which Dual (order_of c.self.inside) c.args.self.now c.shape-shape.result.now c.arena-arena.result.now c.self.view_is c.in-Dual.is
    (own_levels c.self.inside c.self.invariant c.deref.result.now c.deref.ensures c.args.which c.shape-shape.result.now c.shape-shape.ensures)
    (own_arena c.self.inside c.self.invariant c.deref-2.result.now c.deref-2.ensures c.args.which c.arena-arena.result.now c.arena-arena.ensures) c.requires
