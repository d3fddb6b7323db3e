use Rattle.std.proofs.Common.{◌≡◌, ◌<◌, ℕ, List, length, get_or, refl, ap, subst, arith}
use Rattle.vpg_game.specs.Game.{graph_of}
use Rattle.vpg_zielonka.specs.declared.subset.Subset.{Subset}
use Rattle.vpg_zielonka.proofs.Growing.{inside_grown}
use Rattle.vpg_zielonka.specs.Edges.{numbers_at}
use Rattle.vpg_zielonka.proofs.Confining.{AreJoining}
use Rattle.vpg_zielonka.proofs.Listing.{edges_grown}
use Rattle.vpg_zielonka.proofs.Draws.{IsLookedAt, looked_none, looked_all, number_inside, from_drawn, from_waiting, drawn_inside, looked_same, looked_joined}
use Rattle.vpg_zielonka.proofs.attracting.draw.Goals.{then-not-is_none+in_ok-drawn+in_ok-add, else-not-is_none}
use Rattle.vpg_zielonka.proofs.attracting.draw.Goals as goal

pub loop-number-init : goal.loop-number-init
loop-number-init c = looked_none c.args.sets.now (graph_of c.args.game.now) c.args.edges.now.list.items
    c.args.edges.now.leaving c.args.edges.now.entering c.args.player c.args.part.now c.args.drawn.now.items c.args.w
    c.args.waiting.now c.requires.edges c.requires.drawn c.requires.waiting c.requires.settled

pub joining-requires-clause-edges : goal.joining-requires-clause-edges
joining-requires-clause-edges c = edges_grown c.args.sets.now c.loop-number.sets c.loop-number.invariant.grown
    (graph_of c.args.game.now) c.args.edges.now.list.items c.args.edges.now.leaving c.args.edges.now.entering
    c.requires.edges

pub joining-requires-clause-number : goal.joining-requires-clause-number
joining-requires-clause-number c = number_inside c.args.sets.now (graph_of c.args.game.now)
    c.args.edges.now.list.items c.args.edges.now.leaving c.args.edges.now.entering c.args.player c.args.part.now
    c.args.drawn.now.items c.args.w c.requires.edges c.requires.part c.loop-number.sets c.loop-number.drawn.items
    c.loop-number.waiting c.loop-number.number-index c.loop-number.invariant c.numbers-number-items.result.now
    c.numbers-number-items.ensures c.loop-number-test.true

pub index-requires : goal.index-requires
index-requires c = omega (arith, inside, c.args.edges.now.list.ok.0)
  where
    inside : get_or c.numbers-number-items.result.now c.loop-number.number-index 0 < length c.args.edges.now.list.items
    inside = number_inside c.args.sets.now (graph_of c.args.game.now)
        c.args.edges.now.list.items c.args.edges.now.leaving c.args.edges.now.entering c.args.player c.args.part.now
        c.args.drawn.now.items c.args.w c.requires.edges c.requires.part c.loop-number.sets c.loop-number.drawn.items
        c.loop-number.waiting c.loop-number.number-index c.loop-number.invariant c.numbers-number-items.result.now
        c.numbers-number-items.ensures c.loop-number-test.true

pub index-requires-then-not-is_none : goal.index-requires-then-not-is_none
index-requires-then-not-is_none c = omega (arith, inside, c.loop-number.drawn.ok.0)
  where
    inside : c.index.result.now.from < length c.loop-number.drawn.items
    inside = from_drawn c.args.sets.now (graph_of c.args.game.now)
        c.args.edges.now.list.items c.args.edges.now.leaving c.args.edges.now.entering c.args.player c.args.part.now
        c.args.drawn.now.items c.args.w c.requires.edges c.requires.part c.loop-number.sets c.loop-number.drawn.items
        c.loop-number.waiting c.loop-number.number-index c.loop-number.invariant c.numbers-number-items.result.now
        c.numbers-number-items.ensures c.loop-number-test.true c.index.result.now c.index.ensures

pub or-requires-clause-a : goal.or-requires-clause-a
or-requires-clause-a c = inside_grown c.loop-number.sets c.joining.new.sets c.in_ok-joins.ensures.grown
    c.index-then-not-is_none.result.now
    (drawn_inside c.args.sets.now (graph_of c.args.game.now)
    c.args.edges.now.list.items c.args.edges.now.leaving c.args.edges.now.entering c.args.player c.args.part.now
    c.args.drawn.now.items c.args.w c.requires.edges c.requires.part c.loop-number.sets c.loop-number.drawn.items
    c.loop-number.waiting c.loop-number.number-index c.loop-number.invariant c.numbers-number-items.result.now
    c.numbers-number-items.ensures c.loop-number-test.true
    c.index.result.now c.index.ensures c.index-then-not-is_none.result.now c.index-then-not-is_none.ensures)

pub index_mut-requires : goal.index_mut-requires
index_mut-requires c = omega (arith, inside, c.loop-number.drawn.ok.0)
  where
    inside : c.index.result.now.from < length c.loop-number.drawn.items
    inside = from_drawn c.args.sets.now (graph_of c.args.game.now)
        c.args.edges.now.list.items c.args.edges.now.leaving c.args.edges.now.entering c.args.player c.args.part.now
        c.args.drawn.now.items c.args.w c.requires.edges c.requires.part c.loop-number.sets c.loop-number.drawn.items
        c.loop-number.waiting c.loop-number.number-index c.loop-number.invariant c.numbers-number-items.result.now
        c.numbers-number-items.ensures c.loop-number-test.true c.index.result.now c.index.ensures

pub add-requires : goal.add-requires
add-requires c = from_waiting c.args.sets.now (graph_of c.args.game.now)
    c.args.edges.now.list.items c.args.edges.now.leaving c.args.edges.now.entering c.args.player c.args.part.now
    c.args.drawn.now.items c.args.w c.requires.edges c.requires.part c.loop-number.sets c.loop-number.drawn.items
    c.loop-number.waiting c.loop-number.number-index c.loop-number.invariant c.numbers-number-items.result.now
    c.numbers-number-items.ensures c.loop-number-test.true c.index.result.now c.index.ensures

-- the products in which the vertex joins, where the edge that was read comes from
joins : (c : goal.Joined-not-is_none) → AreJoining c.loop-number.sets c.loop-number.sets (graph_of c.args.game.now)
    c.args.edges.now.list.items c.args.part.now c.loop-number.drawn.items
    (get_or c.numbers-number-items.result.now c.loop-number.number-index 0) c.args.player c.joining.new.sets
    c.in_ok-joins.joins
joins c = subst (λ (xs : List Subset). AreJoining c.loop-number.sets c.loop-number.sets (graph_of c.args.game.now)
    c.args.edges.now.list.items c.args.part.now xs
    (get_or c.numbers-number-items.result.now c.loop-number.number-index 0) c.args.player c.joining.new.sets
    c.in_ok-joins.joins) c.deref.ensures.value c.in_ok-joins.ensures.joining

pub loop-number-preserved : goal.loop-number-preserved
loop-number-preserved c = elim c.if-not-is_none.branch [
  | then-not-is_none+in_ok-drawn+in_ok-add w ↦
      rw (w.sets-is, w.drawn-is, w.waiting-is)
      (looked_joined c.args.sets.now (graph_of c.args.game.now)
      c.args.edges.now.list.items c.args.edges.now.leaving c.args.edges.now.entering c.args.player c.args.part.now
      c.args.drawn.now.items c.args.w c.requires.edges c.requires.part c.loop-number.sets c.loop-number.drawn.items
      c.loop-number.waiting c.loop-number.number-index c.loop-number.invariant c.numbers-number-items.result.now
      c.numbers-number-items.ensures c.loop-number-test.true
      c.joining.new.sets c.in_ok-joins.ensures.grown c.in_ok-joins.joins (joins c) w.or.new.self
      w.in_ok-drawn.ensures.grown w.index.result.now w.index.ensures w.index-then-not-is_none.result.now
      w.index-then-not-is_none.ensures w.in_ok-drawn.field-0 w.in_ok-drawn.ensures.set _
      refl w.add.new.self w.in_ok-add.ensures)
  | else-not-is_none w ↦ rw (w.sets-is, w.drawn-is, w.waiting-is)
      (looked_same c.args.sets.now (graph_of c.args.game.now)
      c.args.edges.now.list.items c.args.edges.now.leaving c.args.edges.now.entering c.args.player c.args.part.now
      c.args.drawn.now.items c.args.w c.requires.edges c.requires.part c.loop-number.sets c.loop-number.drawn.items
      c.loop-number.waiting c.loop-number.number-index c.loop-number.invariant c.numbers-number-items.result.now
      c.numbers-number-items.ensures c.loop-number-test.true
      c.joining.new.sets c.in_ok-joins.ensures.grown c.in_ok-joins.joins (joins c) (w.if-not-is_none.ensures.none refl))
]

pub returns-clause-settled : goal.returns-clause-settled
returns-clause-settled c = looked_all c.args.sets.now (graph_of c.args.game.now) c.args.edges.now.list.items
    c.args.edges.now.leaving c.args.edges.now.entering c.args.player c.args.part.now c.args.drawn.now.items c.args.w
    c.loop-number.sets c.loop-number.drawn.items c.loop-number.waiting
    (subst (λ (n : ℕ). IsLookedAt c.args.sets.now (graph_of c.args.game.now) c.args.edges.now.list.items
    c.args.edges.now.leaving c.args.edges.now.entering c.args.player c.args.part.now c.args.drawn.now.items c.args.w
    c.loop-number.sets c.loop-number.drawn.items c.loop-number.waiting n) end c.loop-number.invariant)
  where
    end : c.loop-number.number-index ≡ length (numbers_at c.args.edges.now.entering c.args.w)
    end = omega (
      arith,
      c.loop-number-test.false,
      c.loop-number.auto.number-index-end,
      ap (λ (xs : List ℕ). length xs) c.numbers-number-items.ensures,
    )
