use Rattle.std.proofs.Common.{◌<◌, length, get_or, sym, subst, arith}
use Rattle.vpg_game.specs.Game.{graph_of}
use Rattle.vpg_zielonka.proofs.Growing.{inside_grown}
use Rattle.vpg_zielonka.proofs.Confining.{leaves_in, read_to, read_products, confined_next, confined_end}
use Rattle.vpg_zielonka.proofs.attracting.confined.Goals as goal

pub index-edge-requires : goal.index-edge-requires
index-edge-requires c = omega (arith, c.args.edges.now.list.ok.0, inside)
  where
    inside : get_or c.numbers-number-items.result.now c.loop-number.number-index 0 < length c.args.edges.now.list.items
    inside = (leaves_in c.args.sets.now (graph_of c.args.game.now) c.args.edges.now.list.items
        c.args.edges.now.leaving c.args.edges.now.entering c.requires.edges c.numbers-number-items.result.now c.args.v
        c.loop-number.number-index c.loop-number-test.true c.numbers-number-items.ensures).0

pub bounds-part-to : goal.bounds-part-to
bounds-part-to c = subst (λ n. c.index-edge.result.now.to < n) (sym c.requires.part.count_is)
    (read_to c.args.sets.now (graph_of c.args.game.now) c.args.edges.now.list.items c.args.edges.now.leaving
    c.args.edges.now.entering c.requires.edges
    (get_or c.numbers-number-items.result.now c.loop-number.number-index 0) c.index-edge.result.now
    (leaves_in c.args.sets.now (graph_of c.args.game.now) c.args.edges.now.list.items
    c.args.edges.now.leaving c.args.edges.now.entering c.requires.edges c.numbers-number-items.result.now c.args.v
    c.loop-number.number-index c.loop-number-test.true c.numbers-number-items.ensures).0 c.index-edge.ensures)

pub bounds-drawn-to : goal.bounds-drawn-to
bounds-drawn-to c = subst (λ n. c.index-edge.result.now.to < n) (sym c.requires.drawn.count_is)
    (read_to c.args.sets.now (graph_of c.args.game.now) c.args.edges.now.list.items c.args.edges.now.leaving
    c.args.edges.now.entering c.requires.edges
    (get_or c.numbers-number-items.result.now c.loop-number.number-index 0) c.index-edge.result.now
    (leaves_in c.args.sets.now (graph_of c.args.game.now) c.args.edges.now.list.items
    c.args.edges.now.leaving c.args.edges.now.entering c.requires.edges c.numbers-number-items.result.now c.args.v
    c.loop-number.number-index c.loop-number-test.true c.numbers-number-items.ensures).0 c.index-edge.ensures)

pub cut-requires-clause-g : goal.cut-requires-clause-g
cut-requires-clause-g c = inside_grown c.args.sets.now c.loop-number.sets c.loop-number.invariant.0
    c.index-edge.result.now.products
    (read_products c.args.sets.now (graph_of c.args.game.now) c.args.edges.now.list.items c.args.edges.now.leaving
    c.args.edges.now.entering c.requires.edges
    (get_or c.numbers-number-items.result.now c.loop-number.number-index 0) c.index-edge.result.now
    (leaves_in c.args.sets.now (graph_of c.args.game.now) c.args.edges.now.list.items
    c.args.edges.now.leaving c.args.edges.now.entering c.requires.edges c.numbers-number-items.result.now c.args.v
    c.loop-number.number-index c.loop-number-test.true c.numbers-number-items.ensures).0 c.index-edge.ensures)

pub loop-number-preserved : goal.loop-number-preserved
loop-number-preserved c = confined_next c.args.sets.now (graph_of c.args.game.now) c.args.edges.now.list.items
    c.args.edges.now.leaving c.args.edges.now.entering c.requires.edges c.args.part.now c.args.drawn.now
    c.requires.part c.requires.drawn c.args.set c.numbers-number-items.result.now c.args.v
    c.numbers-number-items.ensures c.loop-number.sets c.cut.new.self c.loop-number.invariant.0
    c.in_ok-kept.ensures.grown c.loop-number.kept c.in_ok-kept.kept c.loop-number.number-index
    c.loop-number-test.true c.index-edge.result.now c.index-edge.ensures c.in_ok-kept.ensures.set
    c.loop-number.invariant.2

pub returns-clause-confined : goal.returns-clause-confined
returns-clause-confined c = confined_end c.args.sets.now (graph_of c.args.game.now) c.args.edges.now.list.items
    c.args.edges.now.leaving c.args.edges.now.entering c.requires.edges c.args.part.now c.args.drawn.now
    c.requires.part c.requires.drawn c.args.set c.numbers-number-items.result.now c.args.v
    c.numbers-number-items.ensures c.loop-number.sets c.loop-number.kept c.loop-number.number-index
    (omega (arith, c.loop-number-test.false, c.loop-number.auto.number-index-end)) c.loop-number.invariant.2
