use Rattle.std.proofs.Common.{◌≡◌, ◌+◌, ◌<◌, List, [], ◌∷◌, length, sym, ◌∙◌, ap, subst, arith}
use Rattle.vpg_features.specs.Index.{NotesAlso}
use Rattle.vpg_guards.specs.Formula.{Formula, IsBelow}
use Rattle.vpg_guards.specs.View.{formula_of}
use Rattle.vpg_game.specs.Edges.{GuardedEdge}
use Rattle.vpg_game.specs.Game.{graph_of, vertex_in}
use Rattle.vpg_game.proofs.Graphs.{same_count}
use Rattle.vpg_zielonka.proofs.Growing.{grown_then}
use Rattle.vpg_zielonka.specs.declared.edges.Edge.{Edge}
use Rattle.vpg_zielonka.specs.Edges.{AreListed}
use Rattle.vpg_zielonka.proofs.Listing.{IsNamedUpTo, edge_item, item_facts, listed_next, listed_vertex}
use Rattle.vpg_zielonka.proofs.edges.Edges.add_all.Goals as goal

pub of_guard-requires : goal.of_guard-requires
of_guard-requires c = subst (λ n. IsBelow n (formula_of c.edge.inside.guard))
    (c.requires.features ∙ sym c.loop-edge.invariant.0.features)
    (item_facts c.args.game.now c.requires.game c.args.v c.requires.vertex c.edges-edge-items.result.now
    c.edges-edge-items.ensures.graph c.loop-edge.edge-index c.loop-edge-test.true c.edge-item.result
    (record { to = c.edge.inside.to; guard = formula_of c.edge.inside.guard }) c.edge-item.is c.edge.view_is).1

pub overflow_cast-edge-inside : goal.overflow_cast-edge-inside
overflow_cast-edge-inside c = omega (arith, facts, c.requires.game.few, same_count c.args.game.now)
  where
    facts : c.edge.inside.to < length (graph_of c.args.game.now)
    facts = (item_facts c.args.game.now c.requires.game c.args.v c.requires.vertex c.edges-edge-items.result.now
        c.edges-edge-items.ensures.graph c.loop-edge.edge-index c.loop-edge-test.true c.edge-item.result
        (record { to = c.edge.inside.to; guard = formula_of c.edge.inside.guard }) c.edge-item.is c.edge.view_is).0

pub note-requires-in-loop-edge : goal.note-requires-in-loop-edge
note-requires-in-loop-edge c = subst (λ n. c.edge.inside.to < n) (sym c.loop-edge.invariant.1.enter_count)
    (item_facts c.args.game.now c.requires.game c.args.v c.requires.vertex c.edges-edge-items.result.now
    c.edges-edge-items.ensures.graph c.loop-edge.edge-index c.loop-edge-test.true c.edge-item.result
    (record { to = c.edge.inside.to; guard = formula_of c.edge.inside.guard }) c.edge-item.is c.edge.view_is).0

pub loop-edge-preserved : goal.loop-edge-preserved
loop-edge-preserved c = (
  grown_then c.args.sets.now c.loop-edge.sets c.of_guard.new.self c.loop-edge.invariant.0 c.in_ok-products.ensures.grown,
  subst (λ (xs : List Edge). AreListed c.of_guard.new.self (graph_of c.args.game.now)
      (IsNamedUpTo (graph_of c.args.game.now) c.args.v (c.loop-edge.edge-index + 1)) xs c.note.new.self
      c.note-in-loop-edge.new.self) (sym c.in_ok-push.ensures)
      (listed_next c.loop-edge.sets c.of_guard.new.self c.in_ok-products.ensures.grown (graph_of c.args.game.now)
      c.args.v c.loop-edge.edge-index c.requires.vertex
      (record { to = c.edge.inside.to; guard = formula_of c.edge.inside.guard })
      (subst (λ (es : List (GuardedEdge Formula)). c.loop-edge.edge-index < length es) c.edges-edge-items.ensures.graph
      c.loop-edge-test.true)
      (edge_item (vertex_in (graph_of c.args.game.now) c.args.v).edges c.edges-edge-items.result.now
      c.edges-edge-items.ensures.graph c.loop-edge.edge-index c.loop-edge-test.true c.edge-item.result
      (record { to = c.edge.inside.to; guard = formula_of c.edge.inside.guard }) c.edge-item.is c.edge.view_is)
      c.loop-edge.self.list.items c.loop-edge.self.leaving c.loop-edge.self.entering c.note.new.self
      c.note-in-loop-edge.new.self c.in_ok-products.products c.loop-edge.invariant.1 c.in_ok-products.ensures.set
      (item_facts c.args.game.now c.requires.game c.args.v c.requires.vertex c.edges-edge-items.result.now
      c.edges-edge-items.ensures.graph c.loop-edge.edge-index c.loop-edge-test.true c.edge-item.result
      (record { to = c.edge.inside.to; guard = formula_of c.edge.inside.guard }) c.edge-item.is c.edge.view_is).0
      (subst (λ n. NotesAlso c.loop-edge.self.leaving n (c.args.v ∷ []) c.note.new.self) number c.in_ok-note.ensures)
      (subst (λ n. NotesAlso c.loop-edge.self.entering n (c.edge.inside.to ∷ []) c.note-in-loop-edge.new.self) number
      c.in_ok-note-2.ensures)),
)
  where
    number : c.len-number.result ≡ length c.loop-edge.self.list.items
    number = omega (arith, c.len-number.ensures, c.loop-edge.self.list.ok.0)

pub returns-clause-edges : goal.returns-clause-edges
returns-clause-edges c = listed_vertex c.loop-edge.sets (graph_of c.args.game.now) c.loop-edge.self.list.items
    c.loop-edge.self.leaving c.loop-edge.self.entering c.args.v c.loop-edge.edge-index
    (omega (
      arith,
      c.loop-edge-test.false,
      c.loop-edge.auto.edge-index-end,
      ap (λ (es : List (GuardedEdge Formula)). length es) c.edges-edge-items.ensures.graph,
    )) c.loop-edge.invariant.1

pub returns-in_err-note-clause-grown : goal.returns-in_err-note-clause-grown
returns-in_err-note-clause-grown c = grown_then c.args.sets.now c.loop-edge.sets c.of_guard.new.self
    c.loop-edge.invariant.0 c.in_ok-products.ensures.grown

pub returns-in_err-note-2-clause-grown : goal.returns-in_err-note-2-clause-grown
returns-in_err-note-2-clause-grown c = grown_then c.args.sets.now c.loop-edge.sets c.of_guard.new.self
    c.loop-edge.invariant.0 c.in_ok-products.ensures.grown

pub returns-in_err-push-clause-grown : goal.returns-in_err-push-clause-grown
returns-in_err-push-clause-grown c = grown_then c.args.sets.now c.loop-edge.sets c.of_guard.new.self
    c.loop-edge.invariant.0 c.in_ok-products.ensures.grown
