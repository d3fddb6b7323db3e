use Rattle.std.proofs.Common.{◌<◌, ℕ, length, sym, subst, arith, ◌∙◌}
use Rattle.vpg_features.proofs.Noted.{any_default}
use Rattle.vpg_why.specs.Reachable.{MayStep}
use Rattle.vpg_game.specs.Game.{graph_of}
use Rattle.vpg_game.proofs.Graphs.{same_count}
use Rattle.vpg_why.specs.Searched.{AreNoted}
use Rattle.vpg_why.proofs.SearchSteps.{searching_begun, nothing_next, visited_next, searched, queued_inside}
use Rattle.vpg_why.proofs.stepping.search.Goals as goal
use Rattle.vpg_why.proofs.stepping.search.Goals.{then-place-len+in_ok-visit, else-place-len}

pub loop-place-init : goal.loop-place-init
loop-place-init c = searching_begun (MayStep (graph_of c.args.game.now) c.args.known.now c.args.mover c.args.moves.now) (length c.args.game.now.vertices) c.args.first c.args.marks.now.items c.args.queue.now.items c.requires.marks c.requires.begun

pub visit-requires-clause-vertex : goal.visit-requires-clause-vertex
visit-requires-clause-vertex c =
    subst (λ (v : ℕ). v < length c.args.game.now.vertices) (sym c.index-v.ensures)
    (queued_inside (MayStep (graph_of c.args.game.now) c.args.known.now c.args.mover c.args.moves.now) (length c.args.game.now.vertices) c.args.first c.loop-place.marks.items c.loop-place.queue.items c.loop-place.place c.loop-place.invariant c.loop-place.place c.index-v.result.now
    (omega (arith, c.if-place-len.true, c.len.ensures)))

pub loop-place-preserved : goal.loop-place-preserved
loop-place-preserved c = elim c.if-place-len.branch [
  | then-place-len+in_ok-visit w ↦ rw (w.marks-is, w.queue-is)
      (visited_next (MayStep (graph_of c.args.game.now) c.args.known.now c.args.mover c.args.moves.now) (length c.args.game.now.vertices) c.args.first c.loop-place.marks.items c.loop-place.queue.items c.loop-place.place c.loop-place.invariant
      w.visit.new.marks.items w.visit.new.queue.items (omega (arith, w.if-place-len.true, c.len.ensures))
      (subst (λ (v : ℕ). AreNoted (MayStep (graph_of c.args.game.now) c.args.known.now c.args.mover c.args.moves.now v) c.loop-place.marks.items c.loop-place.queue.items w.visit.new.marks.items w.visit.new.queue.items)
      (w.index-v.ensures ∙ any_default c.loop-place.queue.items c.loop-place.place w.index-v.result.now 0 (omega (arith, w.if-place-len.true, c.len.ensures))) w.in_ok-visit.ensures))
  | else-place-len w ↦ rw (w.marks-is, w.queue-is)
      (nothing_next (MayStep (graph_of c.args.game.now) c.args.known.now c.args.mover c.args.moves.now) (length c.args.game.now.vertices) c.args.first c.loop-place.marks.items c.loop-place.queue.items c.loop-place.place c.loop-place.invariant
      (omega (arith, w.if-place-len.false, c.len.ensures)))
]

pub returns : goal.returns
returns c = (
  c.loop-place.invariant.count ∙ sym (same_count c.args.game.now),
  searched (MayStep (graph_of c.args.game.now) c.args.known.now c.args.mover c.args.moves.now) (length c.args.game.now.vertices) c.args.first c.loop-place.marks.items c.loop-place.queue.items c.loop-place.place c.loop-place.invariant
      (omega (arith, c.loop-place-test.false, c.len-place-end.ensures, c.requires.marks, c.loop-place.invariant.count)),
)
