use Rattle.vpg_office.proofs.session.Session.order.Goals as goal

pub returns-in-Ok-clause-ours : goal.returns-in-Ok-clause-ours
returns-in-Ok-clause-ours g c = c.in-Ok.ensures.gives.0
