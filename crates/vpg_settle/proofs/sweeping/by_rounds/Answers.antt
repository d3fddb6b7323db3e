use Rattle.vpg_settle.proofs.Repeated.{rounds_sweep}
use Rattle.vpg_settle.proofs.sweeping.by_rounds.Goals as goal

pub returns-clause-swept : goal.returns-clause-swept
returns-clause-swept c =
    rounds_sweep c.args.order c.alone-harvest.result c.args.rounds c.game-game.ensures.order c.order-order.ensures.harvest c.alone-harvest.ensures.order c.alone-harvest.ensures.settled
