use Rattle.vpg_winners.proofs.gathering.needs_open.Goals as goal

pub returns-in-Won-clause-settled : goal.returns-in-Won-clause-settled
returns-in-Won-clause-settled c = rw c.in-Won.is c.needs_at.ensures.settled
