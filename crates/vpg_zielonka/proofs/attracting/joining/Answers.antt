use Rattle.std.proofs.Common.{◌∙◌, ap, sym}
use Rattle.vpg_zielonka.proofs.Results.{if_ok_of}
use Rattle.vpg_game.specs.Game.{graph_of}
use Rattle.vpg_zielonka.specs.declared.edges.Edge.{Edge}
use Rattle.vpg_zielonka.proofs.Confining.{edge_read, read_owner, steps_made, joins_own, joins_other}
use Rattle.vpg_zielonka.proofs.Listing.{edges_grown}
use Rattle.vpg_zielonka.proofs.Players.{player_same, player_other}
use Rattle.vpg_zielonka.proofs.attracting.joining.Goals as goal

pub returns-then-eq-clause-joining : goal.returns-then-eq-clause-joining
returns-then-eq-clause-joining c = joins_own c.args.sets.now c.step.new.self (graph_of c.args.game.now)
    c.args.edges.now.list.items c.args.part.now c.args.drawn.now c.args.number c.args.player c.in_ok-joins.joins
    (steps_made c.args.sets.now c.step.new.self (graph_of c.args.game.now) c.args.edges.now.list.items
    c.args.part.now c.args.drawn.now c.args.number c.args.edges.now.leaving c.args.edges.now.entering c.requires.edges
    c.requires.part c.requires.drawn c.requires.number c.index-edge.result.now c.index-edge.ensures
    c.in_ok-joins.joins c.in_ok-joins.ensures.set)
    (sym (read_owner c.args.sets.now (graph_of c.args.game.now) c.args.edges.now.list.items c.args.edges.now.leaving
    c.args.edges.now.entering c.requires.edges c.args.number c.index-edge.result.now c.requires.number
    c.index-edge.ensures c.owner.result c.owner.ensures.graph)
    ∙ player_same c.owner.result c.args.player c.if-eq.ensures)

pub confined-requires-clause-edges : goal.confined-requires-clause-edges
confined-requires-clause-edges c = edges_grown c.args.sets.now c.step.new.self c.in_ok-joins.ensures.grown
    (graph_of c.args.game.now) c.args.edges.now.list.items c.args.edges.now.leaving c.args.edges.now.entering
    c.requires.edges

pub returns-clause-joining : goal.returns-clause-joining
returns-clause-joining c = if_ok_of c.confined.result
    (λ kept h. joins_other c.args.sets.now c.step.new.self (graph_of c.args.game.now)
    c.args.edges.now.list.items c.args.part.now c.args.drawn.now c.args.number c.args.player c.in_ok-joins.joins
    (steps_made c.args.sets.now c.step.new.self (graph_of c.args.game.now) c.args.edges.now.list.items
    c.args.part.now c.args.drawn.now c.args.number c.args.edges.now.leaving c.args.edges.now.entering c.requires.edges
    c.requires.part c.requires.drawn c.requires.number c.index-edge.result.now c.index-edge.ensures
    c.in_ok-joins.joins c.in_ok-joins.ensures.set)
    (λ own. player_other c.owner.result c.args.player c.if-eq.ensures
    (read_owner c.args.sets.now (graph_of c.args.game.now) c.args.edges.now.list.items c.args.edges.now.leaving
    c.args.edges.now.entering c.requires.edges c.args.number c.index-edge.result.now c.requires.number
    c.index-edge.ensures c.owner.result c.owner.ensures.graph ∙ own))
    c.in_ok-joins.ensures.grown c.requires.part c.requires.drawn c.confined.new.sets kept c.index-edge.result.now.from
    (ap (λ (x : Edge). x.from) (edge_read c.args.edges.now.list.items c.args.number c.index-edge.result.now
    c.requires.number c.index-edge.ensures)) h) c.confined.ensures.confined
