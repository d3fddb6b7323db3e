use Rattle.vpg_winners.proofs.deciding.decide.Goals as goal

pub returns-clause-decided : goal.returns-clause-decided
returns-clause-decided c = rw c.decisions.ensures.decisions at c.in_ok-decided-2.ensures.decided

pub returns-clause-settled : goal.returns-clause-settled
returns-clause-settled c = rw c.decisions.ensures.decisions at c.in_ok-decided-2.ensures.settled
