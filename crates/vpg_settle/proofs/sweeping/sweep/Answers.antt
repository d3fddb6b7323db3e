use Rattle.vpg_settle.specs.Sweeping.{swept_by}
use Rattle.vpg_settle.proofs.Repeated.{one_sweeps}
use Rattle.vpg_settle.proofs.sweeping.sweep.Goals as goal

pub returns-clause-swept : goal.returns-clause-swept
returns-clause-swept g c = let e = c.sweep_along.ensures in one_sweeps c.args.order c.sweep_along.result e.order e.harvest e.above e.moved

pub returns-clause-by : goal.returns-clause-by
returns-clause-by g c =
    let e = c.sweep_along.ensures in
    swept_by c.args.lifters c.args.order c.sweep_along.result
    (record { swept = one_sweeps c.args.order c.sweep_along.result e.order e.harvest e.above e.moved; lifted = e.lifted })
