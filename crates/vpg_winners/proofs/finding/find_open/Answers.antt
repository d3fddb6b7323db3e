use Rattle.vpg_winners.proofs.finding.find_open.Goals as goal

pub returns-in-Won-clause-settled : goal.returns-in-Won-clause-settled
returns-in-Won-clause-settled c = rw c.in-Won.is c.find_at.ensures.settled
