use Rattle.vpg_game.specs.Game.{graph_of}
use Rattle.vpg_zielonka.proofs.Reachability.{closed_end}
use Rattle.vpg_zielonka.proofs.reaching.reached.Goals as goal

pub returns-clause-closed : goal.returns-clause-closed
returns-clause-closed c = closed_end (graph_of c.args.game.now) c.loop-v.found.items c.loop-v.waiting
    c.in_default.ensures.none c.loop-v.invariant.3
