use Rattle.std.proofs.Common.{◌<◌, ℕ, length, sym, subst, arith, ◌∙◌}
use Rattle.vpg_features.proofs.Noted.{any_default}
use Rattle.vpg_hope.specs.Strategies.{AllowsMove}
use Rattle.vpg_sides.specs.declared.player.Player.{Player}
use Rattle.vpg_why.specs.Searched.{AreNoted}
use Rattle.vpg_measure.specs.Views.{strategy_of}
use Rattle.vpg_why.proofs.SearchSteps.{searching_begun, nothing_next, visited_next, searched, queued_inside, searched_plays}
use Rattle.vpg_why.proofs.reaching.search.Goals as goal
use Rattle.vpg_why.proofs.reaching.search.Goals.{then-place-len+in_ok-visit, else-place-len}

pub loop-place-init : goal.loop-place-init
loop-place-init c = searching_begun (AllowsMove c.args.arena.now Player.Even (strategy_of c.args.moves.now)) (length c.args.arena.now) c.args.first c.args.marks.now.items c.args.queue.now.items c.requires.marks c.requires.begun

pub visit-requires-clause-vertex : goal.visit-requires-clause-vertex
visit-requires-clause-vertex c =
    subst (λ (v : ℕ). v < length c.args.arena.now) (sym c.index-v.ensures)
    (queued_inside (AllowsMove c.args.arena.now Player.Even (strategy_of c.args.moves.now)) (length c.args.arena.now) c.args.first c.loop-place.marks.items c.loop-place.queue.items c.loop-place.place c.loop-place.invariant c.loop-place.place c.index-v.result.now
    (omega (arith, c.if-place-len.true, c.len.ensures)))

pub loop-place-preserved : goal.loop-place-preserved
loop-place-preserved c = elim c.if-place-len.branch [
  | then-place-len+in_ok-visit w ↦ rw (w.marks-is, w.queue-is)
      (visited_next (AllowsMove c.args.arena.now Player.Even (strategy_of c.args.moves.now)) (length c.args.arena.now) c.args.first c.loop-place.marks.items c.loop-place.queue.items c.loop-place.place c.loop-place.invariant
      w.visit.new.marks.items w.visit.new.queue.items (omega (arith, w.if-place-len.true, c.len.ensures))
      (subst (λ (v : ℕ). AreNoted (AllowsMove c.args.arena.now Player.Even (strategy_of c.args.moves.now) v) c.loop-place.marks.items c.loop-place.queue.items w.visit.new.marks.items w.visit.new.queue.items)
      (w.index-v.ensures ∙ any_default c.loop-place.queue.items c.loop-place.place w.index-v.result.now 0 (omega (arith, w.if-place-len.true, c.len.ensures))) w.in_ok-visit.ensures))
  | else-place-len w ↦ rw (w.marks-is, w.queue-is)
      (nothing_next (AllowsMove c.args.arena.now Player.Even (strategy_of c.args.moves.now)) (length c.args.arena.now) c.args.first c.loop-place.marks.items c.loop-place.queue.items c.loop-place.place c.loop-place.invariant
      (omega (arith, w.if-place-len.false, c.len.ensures)))
]

pub returns : goal.returns
returns c = (
  c.loop-place.invariant.count,
  searched_plays c.args.arena.now (strategy_of c.args.moves.now) c.args.first c.loop-place.marks.items
      (searched (AllowsMove c.args.arena.now Player.Even (strategy_of c.args.moves.now)) (length c.args.arena.now) c.args.first c.loop-place.marks.items c.loop-place.queue.items c.loop-place.place c.loop-place.invariant
      (omega (arith, c.loop-place-test.false, c.len-place-end.ensures, c.requires.marks, c.loop-place.invariant.count))),
)
