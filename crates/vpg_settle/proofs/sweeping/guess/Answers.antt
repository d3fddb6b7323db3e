use Rattle.std.proofs.Common.{subst}
use Rattle.vpg_measure.specs.Orders.{OrderView}
use Rattle.vpg_settle.specs.Sweeping.{IsGuessed, guessed}
use Rattle.vpg_settle.proofs.sweeping.guess.Goals as goal

pub returns-in-Ok-clause-guessed : goal.returns-in-Ok-clause-guessed
returns-in-Ok-clause-guessed g c = guessed c.args.order c.in-Ok.harvest c.in-Ok.ensures.harvest c.in-Ok.ensures.order

pub returns-in-Err-clause-guessed : goal.returns-in-Err-clause-guessed
returns-in-Err-clause-guessed g c =
    subst (λ (o : OrderView). IsGuessed o c.climb.result) c.in-Err.ensures.back
    (guessed c.in-Err.order c.climb.result c.climb.ensures.harvest c.climb.ensures.order)
