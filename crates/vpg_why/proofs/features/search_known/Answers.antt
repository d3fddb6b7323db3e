use Rattle.vpg_why.proofs.features.search_known.Goals as goal

pub returns-clause-found : goal.returns-clause-found
returns-clause-found c = rw (c.deref.ensures, c.diagram.ensures.diagram) at (c.in_ok-found.ensures.found c.args.order.now.game)
