use Rattle.std.proofs.Common.{inl, inr}
use Rattle.vpg_settle.proofs.sweeping.is_enough.Goals as goal

pub returns-then-check-clause-late : goal.returns-then-check-clause-late
returns-then-check-clause-late c = λ is. inl (c.check.ensures.0 c.if-check.true)
