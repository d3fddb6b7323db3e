use Rattle.std.proofs.Common.{refl, sym, arith, ◌∙◌}
use Rattle.vpg_hope.specs.Arena.{vertex_at}
use Rattle.vpg_measure.specs.Views.{strategy_of}
use Rattle.vpg_why.proofs.SearchSteps.{noted_begun, allowed_next, refused_next, all_noted}
use Rattle.vpg_why.proofs.reaching.visit.Goals as goal
use Rattle.vpg_why.proofs.reaching.visit.Goals.{then-allows+in_ok-note, else-allows}

pub loop-w-init : goal.loop-w-init
loop-w-init c = noted_begun c.kept-successors.result.now (vertex_at c.args.arena.now c.args.v).owner (strategy_of c.args.moves.now c.args.v) c.args.marks.now.items c.args.queue.now.items c.requires.queued

pub loop-w-preserved : goal.loop-w-preserved
loop-w-preserved c = elim c.if-allows.branch [
  | then-allows+in_ok-note w ↦ rw (w.marks-is, w.queue-is)
      (allowed_next c.kept-successors.result.now (vertex_at c.args.arena.now c.args.v).owner (strategy_of c.args.moves.now c.args.v) c.args.marks.now.items c.args.queue.now.items
      c.loop-w.w-index c.loop-w-test.true c.loop-w.marks.items c.loop-w.queue.items c.loop-w.invariant w.note.new.marks.items w.note.new.queue.items
      (λ o. c.allows.ensures.0 w.if-allows.true (c.owner-owner.ensures ∙ o)) w.in_ok-note.ensures)
  | else-allows w ↦ rw (w.marks-is, w.queue-is)
      (refused_next c.kept-successors.result.now (vertex_at c.args.arena.now c.args.v).owner (strategy_of c.args.moves.now c.args.v) c.args.marks.now.items c.args.queue.now.items
      c.loop-w.w-index c.loop-w-test.true c.loop-w.marks.items c.loop-w.queue.items c.loop-w.invariant
      (λ h. cc (sym (c.allows.ensures.1 (λ o. h (sym c.owner-owner.ensures ∙ o))) ∙ w.if-allows.false)))
]

pub returns : goal.returns
returns c = all_noted c.kept-successors.result.now (vertex_at c.args.arena.now c.args.v).owner (strategy_of c.args.moves.now c.args.v) c.args.marks.now.items c.args.queue.now.items
    c.args.arena.now c.args.moves.now c.args.v c.loop-w.w-index c.loop-w.marks.items c.loop-w.queue.items (omega (arith, c.loop-w-test.false))
    c.kept-successors.ensures.kept refl refl c.loop-w.invariant
