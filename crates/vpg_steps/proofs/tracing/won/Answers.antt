use Rattle.std.proofs.Common.{ℕ, List, Option, sym, subst}
use Rattle.vpg_game.specs.Game.{graph_of}
use Rattle.vpg_why.specs.Explained.{choices}
use Rattle.vpg_why.specs.Moves.{AreWinning}
use Rattle.vpg_steps.proofs.tracing.won.Goals as goal

pub path_along-requires-clause-win : goal.path_along-requires-clause-win
path_along-requires-clause-win c =
    subst (λ (moves : List (Option ℕ)). AreWinning (graph_of c.args.order.now.game) c.args.order.now.diagram.lines (choices c.args.order.now.decisions) c.args.mover c.args.vertex moves) (sym c.deref.ensures.value)
    (rw c.in-Winning.is at c.in_ok-moves.ensures.found)

pub unreachable-requires : goal.unreachable-requires
unreachable-requires c = c.in_ok-moves.ensures.verdict c.requires.verdict c.in-Nothing.is

pub returns-in-Unsettled : goal.returns-in-Unsettled
returns-in-Unsettled c = λ settles. c.in_ok-moves.ensures.settled settles c.in-Unsettled.is
