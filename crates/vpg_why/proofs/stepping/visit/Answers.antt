use Rattle.std.specs.Prelude.{Some}
use Rattle.std.proofs.Common.{refl, sym, ap, arith, subst, length, ℕ, ◌∙◌, ◌<◌, ◌≡◌}
use Rattle.vpg_guards.specs.Formula.{Formula, IsBelow}
use Rattle.vpg_game.specs.Guarded.{GuardedEdge}
use Rattle.vpg_game.specs.Game.{graph_of, vertex_in}
use Rattle.vpg_measure.specs.Views.{strategy_of}
use Rattle.vpg_why.specs.Searched.{AreNoted}
use Rattle.vpg_why.proofs.Edges.{edge_in}
use Rattle.vpg_why.proofs.SearchSteps.{taken_begun, taken_next, untaken_next, all_taken}
use Rattle.vpg_why.proofs.stepping.visit.Goals as goal
use Rattle.vpg_why.proofs.stepping.visit.Goals.{then-may_take+in_ok-note, else-may_take}

pub loop-e-init : goal.loop-e-init
loop-e-init c = taken_begun c.edges-edges.result.now c.args.known.now c.args.mover (vertex_in (graph_of c.args.game.now) c.args.v).owner (strategy_of c.args.moves.now c.args.v)
    c.args.marks.now.items c.args.queue.now.items c.requires.queued

pub may_take-requires : goal.may_take-requires
may_take-requires c =
    subst (λ n. IsBelow n c.e-item.result.guard) (sym c.requires.known)
    (edge_in c.args.game.now c.args.v c.edges-edges.result.now c.loop-e.e-index c.e-item.result c.vertices-count.ensures.game c.requires.vertex c.edges-edges.ensures.value c.loop-e-test.true c.e-item.is).1

pub note-requires-clause-queued : goal.note-requires-clause-queued
note-requires-clause-queued c = c.loop-e.invariant.queued

pub note-requires-clause-inside : goal.note-requires-clause-inside
note-requires-clause-inside c =
    subst (λ n. c.e.inside.to < n) (sym (c.loop-e.invariant.count ∙ c.requires.marks))
    (subst (λ w. w < length c.args.game.now.vertices) (sym (ap (λ (e : GuardedEdge Formula). e.to) c.e.view_is))
    (edge_in c.args.game.now c.args.v c.edges-edges.result.now c.loop-e.e-index c.e-item.result c.vertices-count.ensures.game c.requires.vertex c.edges-edges.ensures.value c.loop-e-test.true c.e-item.is).0)

pub loop-e-preserved : goal.loop-e-preserved
loop-e-preserved c = elim c.if-may_take.branch [
  | then-may_take+in_ok-note w ↦ rw (w.marks-is, w.queue-is)
      (taken_next c.edges-edges.result.now c.args.known.now c.args.mover (vertex_in (graph_of c.args.game.now) c.args.v).owner (strategy_of c.args.moves.now c.args.v)
      c.args.marks.now.items c.args.queue.now.items c.loop-e.e-index c.loop-e-test.true c.e-item.result c.e-item.is c.loop-e.marks.items c.loop-e.queue.items c.loop-e.invariant
      w.note.new.marks.items w.note.new.queue.items (c.may_take.ensures.0 w.if-may_take.true).0
      (λ o. sym c.move_of-listed.ensures ∙ (c.may_take.ensures.0 w.if-may_take.true).1 (c.is_mover-is_listed.ensures.1 (o ∙ ap Some (sym c.owner.ensures.graph))))
      (subst (λ (u : ℕ). AreNoted (λ v. v ≡ u) c.loop-e.marks.items c.loop-e.queue.items w.note.new.marks.items w.note.new.queue.items) (ap (λ (e : GuardedEdge Formula). e.to) c.e.view_is) w.in_ok-note.ensures))
  | else-may_take w ↦ rw (w.marks-is, w.queue-is)
      (untaken_next c.edges-edges.result.now c.args.known.now c.args.mover (vertex_in (graph_of c.args.game.now) c.args.v).owner (strategy_of c.args.moves.now c.args.v)
      c.args.marks.now.items c.args.queue.now.items c.loop-e.e-index c.loop-e-test.true c.e-item.result c.e-item.is c.loop-e.marks.items c.loop-e.queue.items c.loop-e.invariant
      (λ h. cc (sym (c.may_take.ensures.1 (h.0, λ l. c.move_of-listed.ensures ∙ h.1 (c.is_mover-is_listed.ensures.0 l ∙ ap Some c.owner.ensures.graph))) ∙ w.if-may_take.false)))
]

pub returns : goal.returns
returns c = all_taken c.edges-edges.result.now c.args.known.now c.args.mover (vertex_in (graph_of c.args.game.now) c.args.v).owner (strategy_of c.args.moves.now c.args.v)
    c.args.marks.now.items c.args.queue.now.items (graph_of c.args.game.now) c.args.moves.now c.args.v c.loop-e.e-index c.loop-e.marks.items c.loop-e.queue.items
    (omega (arith, c.loop-e-test.false)) c.edges-edges.ensures.graph refl refl c.loop-e.invariant
