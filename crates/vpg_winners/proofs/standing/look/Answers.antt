use Rattle.std.proofs.Common.{arith, refl}
use Rattle.vpg_why.specs.Explained.{choices}
use Rattle.vpg_winners.proofs.Looking.{none_by_conflict}
use Rattle.vpg_winners.proofs.standing.look.Goals as goal

pub look_under-requires-clause-games : goal.look_under-requires-clause-games
look_under-requires-clause-games c = rw c.in-Some.is at c.in_ok-games.ensures.games

pub returns-in-None : goal.returns-in-None
returns-in-None c = record {
  standing = none_by_conflict c.args.order.now.game c.args.order.now.diagram (choices c.args.decisions.now) c.args.vertex
      c.game-order.ensures.order.diagram ((rw c.in-None.is at c.in_ok-games.ensures.conflict) refl);
  settled = λ s t. tt;
  looks = omega arith;
}
