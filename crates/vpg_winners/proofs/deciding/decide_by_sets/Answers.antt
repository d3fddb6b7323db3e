use Rattle.vpg_why.specs.Explained.{choices}
use Rattle.vpg_winners.proofs.MetSets.{firsts_decide}
use Rattle.vpg_winners.proofs.deciding.decide_by_sets.Goals as goal

pub returns-clause-decided : goal.returns-clause-decided
returns-clause-decided c =
    let order = c.args.order.now in
    let two = c.in-Some.two in
    let count = rw c.in-Some.is at c.in_ok-two.ensures.features in
    let stand = rw c.in-Some.is at c.in_ok-two.ensures.stand in
    rw c.both.ensures (firsts_decide order.game order.diagram c.args.vertex (choices order.decisions) two.sets two.won
    two.lost c.in_ok-won.won c.in_ok-lost.lost c.in_ok-won.ensures c.in_ok-lost.ensures c.game-order.ensures.order.game
    c.requires.vertex count stand)
