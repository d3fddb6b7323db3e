use Rattle.vpg_why.specs.Explained.{choices}
use Rattle.vpg_winners.proofs.OneWins.{decided_is, decided_exactly}
use Rattle.vpg_winners.proofs.deciding.search_both.Goals as goal

pub returns : goal.returns
returns c = record {
  decided = rw c.both.ensures (decided_is c.args.order.now.game c.args.order.now.diagram (choices c.args.decisions.now)
      c.args.vertex c.game-order.ensures.order.game c.requires.vertex c.in_ok-won.won c.in_ok-lost.lost
      c.in_ok-won.ensures.found c.in_ok-lost.ensures.found);
  settled = λ s t. rw c.both.ensures (decided_exactly c.in_ok-won.won c.in_ok-lost.lost (c.in_ok-won.ensures.settled s)
      (c.in_ok-lost.ensures.settled t));
}
