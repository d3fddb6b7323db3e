use Rattle.std.proofs.Common.{◌<◌, length, refl, arith}
use Rattle.vpg_game.specs.Game.{graph_of}
use Rattle.vpg_zielonka.proofs.Priorities.{greatest_passed, greatest_raised, greatest_absent}
use Rattle.vpg_zielonka.proofs.rounds.greatest.Goals.{then-not-is_none, else-not-is_none}
use Rattle.vpg_zielonka.proofs.rounds.greatest.Goals as goal

inside : (c : goal.Joined-not-is_none) → c.loop-v.v < length (graph_of c.args.game.now)
inside c = omega (arith, c.loop-v-test.true, c.vertices-v-end.ensures.graph)

pub loop-v-preserved : goal.loop-v-preserved
loop-v-preserved c = elim c.if-not-is_none.branch [
  | then-not-is_none w ↦ let some = w.if-not-is_none.ensures.some refl in
      rw (w.greatest-is) (greatest_raised c.args.sets.now (graph_of c.args.game.now) c.args.part.now c.requires
      c.loop-v.v (inside c) c.loop-v.greatest w.priority.result w.greater.result w.priority.ensures.graph some.0 some.2
      w.greater.ensures.least w.greater.ensures.more w.greater.ensures.one c.loop-v.invariant)
  | else-not-is_none w ↦ rw (w.greatest-is) (greatest_passed c.args.sets.now (graph_of c.args.game.now)
      c.args.part.now c.requires c.loop-v.v (inside c) c.loop-v.greatest (w.if-not-is_none.ensures.none refl)
      c.loop-v.invariant)
]

pub returns-clause-none : goal.returns-clause-none
returns-clause-none c = greatest_absent c.args.sets.now (graph_of c.args.game.now) c.args.part.now c.requires c.loop-v.v
    (omega (arith, c.loop-v-test.false, c.vertices-v-end.ensures.graph)) c.loop-v.greatest c.loop-v.invariant
