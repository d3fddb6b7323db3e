use Rattle.std.proofs.Common.{◌<◌, arith}
use Rattle.vpg_game.specs.Game.{graph_of}
use Rattle.vpg_zielonka.proofs.Growing.{grown_then}
use Rattle.vpg_zielonka.proofs.Listing.{edges_grown}
use Rattle.vpg_zielonka.proofs.Stepping.{loop_ends, below_bound, next_live, next_below, others_inside, three_live, round_more}
use Rattle.vpg_zielonka.proofs.solving.+solve_part.Goals as goal

pub below_tops-requires-clause-edges : goal.below_tops-requires-clause-edges
below_tops-requires-clause-edges t c = edges_grown c.args.sets.now c.loop-priority.sets
    c.loop-priority.invariant.0.grown (graph_of c.args.game.now) c.args.edges.now.list.items
    c.args.edges.now.leaving c.args.edges.now.entering c.requires.edges

pub solve_part-requires : goal.solve_part-requires
solve_part-requires t c = (
  omega (arith, less, c.decreases),
  (
    edges_grown c.args.sets.now c.below_tops.new.sets
        (grown_then c.args.sets.now c.loop-priority.sets c.below_tops.new.sets c.loop-priority.invariant.0.grown
        c.in_ok-left.ensures.grown) (graph_of c.args.game.now) c.args.edges.now.list.items c.args.edges.now.leaving
        c.args.edges.now.entering c.requires.edges,
    (
      c.in_ok-left.ensures.sets,
      (
        next_live c.args.sets.now (graph_of c.args.game.now) c.args.part.items c.args.bound c.loop-priority.sets
            c.loop-priority.part.items c.loop-priority.winners c.loop-priority.invariant.0 c.deref.result.now
            c.deref.ensures.value c.below_tops.new.sets c.in_ok-left.ensures.grown c.in_ok-left.left.items
            c.deref-in-Some.result.now c.deref-in-Some.ensures.value c.winner_at-player.result c.in-Some.priority
            c.in-Some.ensures.greatest c.in_ok-left.ensures.left,
        next_below c.args.sets.now (graph_of c.args.game.now) c.args.part.items c.args.bound c.loop-priority.sets
            c.loop-priority.part.items c.loop-priority.winners c.loop-priority.invariant.0 c.deref.result.now
            c.deref.ensures.value c.below_tops.new.sets c.in_ok-left.ensures.grown c.in_ok-left.left.items
            c.deref-in-Some.result.now c.deref-in-Some.ensures.value c.winner_at-player.result c.in-Some.priority
            c.in-Some.ensures.greatest c.in_ok-left.ensures.left,
      ),
    ),
  ),
)
  where
    less : c.in-Some.priority < c.args.bound
    less = below_bound c.args.sets.now (graph_of c.args.game.now) c.args.part.items c.args.bound c.loop-priority.sets
        c.loop-priority.part.items c.loop-priority.winners c.loop-priority.invariant.0 c.deref.result.now
        c.deref.ensures.value c.in-Some.priority c.in-Some.ensures.some

pub give_away-requires-clause-edges : goal.give_away-requires-clause-edges
give_away-requires-clause-edges t c = edges_grown c.args.sets.now c.solve_part.new.sets
    (grown_then c.args.sets.now c.below_tops.new.sets c.solve_part.new.sets
    (grown_then c.args.sets.now c.loop-priority.sets c.below_tops.new.sets c.loop-priority.invariant.0.grown
    c.in_ok-left.ensures.grown) c.in_ok-inner.ensures.grown) (graph_of c.args.game.now) c.args.edges.now.list.items
    c.args.edges.now.leaving c.args.edges.now.entering c.requires.edges

pub give_away-requires-clause-inside : goal.give_away-requires-clause-inside
give_away-requires-clause-inside t c = others_inside c.args.sets.now (graph_of c.args.game.now) c.args.part.items
    c.args.bound c.loop-priority.sets c.loop-priority.part.items c.loop-priority.winners c.loop-priority.invariant.0
    c.deref.result.now c.deref.ensures.value c.below_tops.new.sets c.in_ok-left.ensures.grown c.in_ok-left.left.items
    c.deref-in-Some.result.now c.deref-in-Some.ensures.value c.winner_at-player.result c.in-Some.priority
    c.in-Some.ensures.greatest c.in_ok-left.ensures.left c.solve_part.new.sets c.in_ok-inner.ensures.grown
    c.in_ok-inner.inner c.in_ok-inner.ensures.solution c.opponent.result c.opponent.ensures c.of-others.result.now
    c.deref-in-Some-2.result.now c.of-others.ensures c.deref-in-Some-2.ensures.value

pub give_away-requires-clause-live : goal.give_away-requires-clause-live
give_away-requires-clause-live t c = three_live c.args.sets.now (graph_of c.args.game.now) c.args.part.items
    c.args.bound c.loop-priority.sets c.loop-priority.part.items c.loop-priority.winners c.loop-priority.invariant.0
    c.deref.result.now c.deref.ensures.value c.below_tops.new.sets c.in_ok-left.ensures.grown c.in_ok-left.left.items
    c.deref-in-Some.result.now c.deref-in-Some.ensures.value c.winner_at-player.result c.in-Some.priority
    c.in-Some.ensures.greatest c.in_ok-left.ensures.left c.solve_part.new.sets c.in_ok-inner.ensures.grown
    c.in_ok-inner.inner c.in_ok-inner.ensures.solution c.opponent.result c.opponent.ensures c.of-others.result.now
    c.deref-in-Some-2.result.now c.of-others.ensures c.deref-in-Some-2.ensures.value

pub loop-priority-preserved : goal.loop-priority-preserved
loop-priority-preserved t c = (
  round_more c.args.sets.now (graph_of c.args.game.now) c.args.part.items
      c.args.bound c.loop-priority.sets c.loop-priority.part.items c.loop-priority.winners c.loop-priority.invariant.0
      c.deref.result.now c.deref.ensures.value c.below_tops.new.sets c.in_ok-left.ensures.grown c.in_ok-left.left.items
      c.deref-in-Some.result.now c.deref-in-Some.ensures.value c.winner_at-player.result c.in-Some.priority
      c.in-Some.ensures.greatest c.in_ok-left.ensures.left c.solve_part.new.sets c.in_ok-inner.ensures.grown
      c.in_ok-inner.inner c.in_ok-inner.ensures.solution c.opponent.result c.opponent.ensures c.of-others.result.now
      c.deref-in-Some-2.result.now c.of-others.ensures c.deref-in-Some-2.ensures.value c.give_away.new.sets
      c.in_ok-part.ensures.grown c.in_ok-part.part.items c.give_away.new.winners c.winner_at-player.ensures
      c.in_ok-part.ensures.sets c.in_ok-part.ensures.winners c.in_ok-part.ensures.given,
  omega (
    arith,
    c.loop-priority.invariant.1,
    c.in_ok-take_steps.ensures.taken,
    c.in_ok-left.ensures.steps,
    c.in_ok-inner.ensures.steps,
    c.in_ok-part.ensures.steps,
  ),
)

pub returns-clause-solution : goal.returns-clause-solution
returns-clause-solution t c = loop_ends c.args.sets.now (graph_of c.args.game.now) c.args.part.items c.args.bound
    c.loop-priority.sets c.loop-priority.part.items c.loop-priority.winners c.loop-priority.invariant.0
    c.deref.result.now c.deref.ensures.value c.in_default.ensures.none
