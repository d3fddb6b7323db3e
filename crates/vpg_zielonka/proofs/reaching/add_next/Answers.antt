use Rattle.std.proofs.Common.{◌<◌, sym, ap, subst}
use Rattle.vpg_game.specs.Edges.{GuardedEdge}
use Rattle.vpg_guards.specs.Formula.{Formula}
use Rattle.vpg_guards.specs.View.{formula_of}
use Rattle.vpg_game.specs.Game.{graph_of, vertex_in}
use Rattle.vpg_zielonka.proofs.Listing.{edge_item, item_facts}
use Rattle.vpg_zielonka.proofs.Reachability.{found_more}
use Rattle.vpg_zielonka.proofs.reaching.add_next.Goals as goal

pub add-requires-clause-found : goal.add-requires-clause-found
add-requires-clause-found c = subst (λ n. c.edge.inside.to < n) (sym c.loop-edge.invariant.found_count)
    (item_facts c.args.game.now c.vertices-vertices.ensures.game c.args.v c.requires.vertex c.edges-edge-items.result.now
    c.edges-edge-items.ensures.graph c.loop-edge.edge-index c.loop-edge-test.true c.edge-item.result
    (record { to = c.edge.inside.to; guard = formula_of c.edge.inside.guard }) c.edge-item.is c.edge.view_is).0

pub add-requires-clause-waiting : goal.add-requires-clause-waiting
add-requires-clause-waiting c = subst (λ n. c.edge.inside.to < n) (sym c.loop-edge.invariant.waiting_count)
    (item_facts c.args.game.now c.vertices-vertices.ensures.game c.args.v c.requires.vertex c.edges-edge-items.result.now
    c.edges-edge-items.ensures.graph c.loop-edge.edge-index c.loop-edge-test.true c.edge-item.result
    (record { to = c.edge.inside.to; guard = formula_of c.edge.inside.guard }) c.edge-item.is c.edge.view_is).0

pub loop-edge-preserved : goal.loop-edge-preserved
loop-edge-preserved c = found_more (graph_of c.args.game.now) c.args.v c.args.found.now.items c.loop-edge.found.items
    c.add.new.found.items c.loop-edge.waiting c.add.new.waiting c.loop-edge.edge-index c.edge.inside.to
    (item_facts c.args.game.now c.vertices-vertices.ensures.game c.args.v c.requires.vertex c.edges-edge-items.result.now
    c.edges-edge-items.ensures.graph c.loop-edge.edge-index c.loop-edge-test.true c.edge-item.result
    (record { to = c.edge.inside.to; guard = formula_of c.edge.inside.guard }) c.edge-item.is c.edge.view_is).0
    (λ d. ap (λ (e : GuardedEdge Formula). e.to)
    (edge_item (vertex_in (graph_of c.args.game.now) c.args.v).edges c.edges-edge-items.result.now
    c.edges-edge-items.ensures.graph c.loop-edge.edge-index c.loop-edge-test.true c.edge-item.result
    (record { to = c.edge.inside.to; guard = formula_of c.edge.inside.guard }) c.edge-item.is c.edge.view_is d))
    c.in_ok-add.ensures.found c.in_ok-add.ensures.waiting c.loop-edge.invariant
