use Rattle.std.proofs.Common.{length, refl, arith}
use Rattle.vpg_game.specs.Game.{graph_of}
use Rattle.vpg_zielonka.proofs.Waiting.{waiting_add, waiting_skip, waiting_all}
use Rattle.vpg_zielonka.proofs.attracting.waiting_at.Goals.{then-not-is_none+in_ok-add, else-not-is_none}
use Rattle.vpg_zielonka.proofs.attracting.waiting_at.Goals as goal

pub loop-v-preserved : goal.loop-v-preserved
loop-v-preserved c = elim c.if-not-is_none.branch [
  | then-not-is_none+in_ok-add w ↦ rw (w.waiting-is) (waiting_add c.args.sets.now c.args.part.now
      (length (graph_of c.args.game.now)) c.loop-v.v c.loop-v.waiting w.add.new.self
      (omega (arith, c.loop-v-test.true, c.vertices-v-end.ensures.graph)) w.in_ok-add.ensures c.loop-v.invariant)
  | else-not-is_none w ↦ rw (w.waiting-is) (waiting_skip c.args.sets.now c.args.part.now
      (length (graph_of c.args.game.now)) c.loop-v.v c.loop-v.waiting c.requires
      (omega (arith, c.loop-v-test.true, c.vertices-v-end.ensures.graph)) (w.if-not-is_none.ensures.none refl)
      c.loop-v.invariant)
]

pub returns-clause-waits : goal.returns-clause-waits
returns-clause-waits c = waiting_all c.args.sets.now c.args.part.now (length (graph_of c.args.game.now)) c.loop-v.v
    c.loop-v.waiting c.requires (omega (arith, c.loop-v-test.false, c.vertices-v-end.ensures.graph)) c.loop-v.invariant
