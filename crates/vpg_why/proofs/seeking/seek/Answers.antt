use Rattle.vpg_why.proofs.seeking.seek.Goals as goal

pub returns-clause-settled : goal.returns-clause-settled
returns-clause-settled c s = c.in_ok-found.ensures.settled (c.in_ok-is_small.ensures s.1) s
