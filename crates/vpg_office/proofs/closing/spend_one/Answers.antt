use Rattle.std.proofs.Common.{arith}
use Rattle.vpg_office.specs.Made.{SpendsToken}
use Rattle.vpg_office.proofs.closing.spend_one.Goals as goal

pub returns-clause-counted : goal.returns-clause-counted
returns-clause-counted g c = omega (arith, c.take_back.ensures, c.audit.ensures.same, c.requires, c.spend.ensures.counted)

pub returns-clause-step : goal.returns-clause-step
returns-clause-step g c = coe 0 1 (k. SpendsToken c.args.desk.now (g.T.Kind.asks (c.held.view_is k).serial) c.spend.new.desk) c.spend.ensures.step

pub spend-requires : goal.spend-requires
spend-requires g c = omega (arith, c.audit.ensures.bound, c.held.invariant.0, c.requires)
