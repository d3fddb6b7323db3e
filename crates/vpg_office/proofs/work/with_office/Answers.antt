use Rattle.vpg_office.proofs.work.with_office.Goals as goal

pub returns-in-Err-clause-at_limit : goal.returns-in-Err-clause-at_limit
returns-in-Err-clause-at_limit g c = c.memory_fault.ensures.at_limit

pub returns-in-Err-clause-conflict : goal.returns-in-Err-clause-conflict
returns-in-Err-clause-conflict g c = λ f is. absurd (c.memory_fault.ensures.conflict f is)
