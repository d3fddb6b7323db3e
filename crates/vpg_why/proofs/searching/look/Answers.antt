use Rattle.vpg_why.proofs.searching.look.Goals as goal

pub returns-in-Won-clause-settled : goal.returns-in-Won-clause-settled
returns-in-Won-clause-settled c = rw c.in-Won.is c.look_at_game.ensures.settled
