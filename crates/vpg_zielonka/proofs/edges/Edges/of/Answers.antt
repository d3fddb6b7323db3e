use Rattle.std.proofs.Common.{arith}
use Rattle.vpg_game.specs.Game.{graph_of}
use Rattle.vpg_zielonka.proofs.Listing.{listed_all}
use Rattle.vpg_zielonka.proofs.Growing.{grown_then}
use Rattle.vpg_zielonka.proofs.edges.Edges.of.Goals as goal

pub returns-clause-edges : goal.returns-clause-edges
returns-clause-edges c = listed_all c.loop-v.sets (graph_of c.args.game.now) c.loop-v.edges.list.items
    c.loop-v.edges.leaving c.loop-v.edges.entering c.loop-v.v
    (omega (arith, c.loop-v-test.false, c.loop-v.auto.v-end, c.vertices-vertices.ensures.graph)) c.loop-v.invariant.1

pub returns-in_err-add_all-clause-grown : goal.returns-in_err-add_all-clause-grown
returns-in_err-add_all-clause-grown c = grown_then c.args.sets.now c.loop-v.sets c.add_all.new.sets
    c.loop-v.invariant.0 c.in_err-add_all.ensures.grown

pub loop-v-preserved : goal.loop-v-preserved
loop-v-preserved c = (
  grown_then c.args.sets.now c.loop-v.sets c.add_all.new.sets c.loop-v.invariant.0 c.in_ok-add_all.ensures.grown,
  c.in_ok-add_all.ensures.edges,
)
