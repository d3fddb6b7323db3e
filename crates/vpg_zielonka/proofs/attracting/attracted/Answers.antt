use Rattle.std.proofs.Common.{List, sym, subst, arith}
use Rattle.vpg_game.specs.Game.{graph_of}
use Rattle.vpg_zielonka.specs.declared.subset.Subset.{Subset}
use Rattle.vpg_zielonka.proofs.Listing.{edges_grown}
use Rattle.vpg_zielonka.proofs.Spreading.{IsSpread, spread_start, spread_pop, spread_more, spread_end}
use Rattle.vpg_zielonka.proofs.attracting.attracted.Goals as goal

pub loop-w-init : goal.loop-w-init
loop-w-init c = (
  subst (λ (xs : List Subset). IsSpread c.args.sets.now (graph_of c.args.game.now) c.args.player c.args.part.now
      c.args.seeds.now c.args.sets.now xs c.in_ok-waiting.waiting) (sym c.in_ok-drawn.ensures.items)
      (spread_start c.args.sets.now (graph_of c.args.game.now) c.args.player c.args.part.now c.args.seeds.now
      c.in_ok-waiting.waiting c.requires.seeds c.in_ok-waiting.ensures.count c.requires.inside
      c.in_ok-waiting.ensures.waits),
  omega arith,
)

pub draw-requires-clause-edges : goal.draw-requires-clause-edges
draw-requires-clause-edges c = edges_grown c.args.sets.now c.loop-w.sets c.loop-w.invariant.0.grown
    (graph_of c.args.game.now) c.args.edges.now.list.items c.args.edges.now.leaving c.args.edges.now.entering
    c.requires.edges

pub draw-requires-clause-settled : goal.draw-requires-clause-settled
draw-requires-clause-settled c = spread_pop c.args.sets.now (graph_of c.args.game.now) c.args.player c.args.part.now
    c.args.seeds.now c.requires.part c.loop-w.sets c.loop-w.drawn.items c.loop-w.waiting c.pop.new.self c.in-Some.w
    c.loop-w.invariant.0 c.in-Some.ensures.first.1

pub loop-w-preserved : goal.loop-w-preserved
loop-w-preserved c = (
  spread_more c.args.sets.now (graph_of c.args.game.now) c.args.player c.args.part.now
      c.args.seeds.now c.requires.part c.loop-w.sets c.draw.new.sets c.loop-w.drawn.items c.draw.new.drawn.items
      c.loop-w.waiting c.draw.new.waiting c.loop-w.invariant.0 c.in_ok-draw.ensures.grown c.in_ok-draw.ensures.drawn
      c.in_ok-draw.ensures.waiting c.in_ok-draw.ensures.more c.in_ok-draw.ensures.settled,
  omega (arith, c.loop-w.invariant.1, c.in_ok-take_steps.ensures.taken),
)

pub returns-clause-attractor : goal.returns-clause-attractor
returns-clause-attractor c = spread_end c.args.sets.now (graph_of c.args.game.now) c.args.player c.args.part.now
    c.args.seeds.now c.loop-w.sets c.loop-w.drawn.items c.loop-w.waiting c.loop-w.invariant.0 c.requires.inside
    c.requires.live c.in_default.ensures.none
