use Rattle.vpg_why.proofs.winning.winning_moves.Goals as goal

pub returns-clause-settled : goal.returns-clause-settled
returns-clause-settled c s = c.in_ok-found.ensures.settled (s _ (rw c.deref.ensures c.games.ensures.known))
