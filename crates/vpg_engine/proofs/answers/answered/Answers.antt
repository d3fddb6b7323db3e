use Rattle.std.proofs.Common.{refl}
use Rattle.vpg_engine.proofs.Logged.{said_of_ok}
use Rattle.vpg_engine.proofs.answers.answered.Goals as goal

pub returns-else-has_one_more-clause-fault : goal.returns-else-has_one_more-clause-fault
returns-else-has_one_more-clause-fault g c = said_of_ok c.args.answer c.in-Ok.made _ _ c.in-Ok.is (refl, c.has_one_more.ensures.no c.if-has_one_more.false)
