use Rattle.std.proofs.lemmas.Grind.{common_steps}
use Rattle.std.proofs.Common.{arith}
use Rattle.vpg_desk.specs.State.{IsOpened}
use Rattle.vpg_desk.proofs.Opened.{limit_told, conflict_told}
use Rattle.vpg_desk.proofs.desk.Desk.open.Goals as goal

pub returns-in-Err-clause-at_limit : goal.returns-in-Err-clause-at_limit
returns-in-Err-clause-at_limit c = limit_told _ _ c.in-Err.fault c.deref.ensures c.in-Err.ensures.at_limit

pub returns-in-Err-clause-conflict : goal.returns-in-Err-clause-conflict
returns-in-Err-clause-conflict c f e = conflict_told _ _ c.in-Err.fault f c.deref-2.ensures (c.in-Err.ensures.conflict f) e

pub returns-in-Ok-clause-fits : goal.returns-in-Ok-clause-fits
returns-in-Ok-clause-fits c = coe 0 1 (k. IsOpened (c.deref.ensures k) (c.deref-2.ensures k)) c.in-Ok.ensures.opened

pub invariant_of-result : goal.invariant_of-result
invariant_of-result c = grind (arith, common_steps)
