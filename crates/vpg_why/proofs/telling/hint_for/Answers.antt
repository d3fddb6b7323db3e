use Rattle.vpg_why.proofs.telling.hint_for.Goals as goal

pub returns-clause-suffices : goal.returns-clause-suffices
returns-clause-suffices c some = rw c.in-Won.is c.in_ok-found.ensures.lost
