use Rattle.std.proofs.Common.{arith, refl}
use Rattle.vpg_why.specs.Explained.{choices}
use Rattle.vpg_why.specs.declared.question.Aim.TheVariants as aims
use Rattle.vpg_why.proofs.Splits.{conflict_lost}
use Rattle.vpg_why.proofs.searching.scout_game.Goals as goal

pub scout_games-requires-clause-games : goal.scout_games-requires-clause-games
scout_games-requires-clause-games c = rw c.in-Some.is at c.in_ok-games.ensures.games

pub returns-in-None : goal.returns-in-None
returns-in-None c = record {
  outlook = conflict_lost c.args.order.now.game c.args.order.now.diagram (aims.Won c.args.which c.args.vertex) (choices c.args.decisions.now) c.game-order.ensures.order.diagram ((rw c.in-None.is at c.in_ok-games.ensures.conflict) refl);
  settled = λ s. tt;
  eased = refl;
  looks = omega arith;
}
