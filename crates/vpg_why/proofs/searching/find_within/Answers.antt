use Rattle.vpg_why.specs.Explained.{choices}
use Rattle.vpg_why.proofs.Eased.{eased_aim, eased_room, found_eased}
use Rattle.vpg_why.proofs.searching.find_within.Goals as goal

pub search_all-requires-clause-aim : goal.search_all-requires-clause-aim
search_all-requires-clause-aim c = eased_aim c.args.order.now.game c.args.order.now.diagram (choices c.args.order.now.decisions) c.args.aim c.eased-aim.result c.eased-aim.ensures c.requires

pub returns-clause-found : goal.returns-clause-found
returns-clause-found c = found_eased c.args.order.now.game c.args.order.now.diagram (choices c.args.order.now.decisions) c.args.aim c.eased-aim.result c.in_ok-found.found c.eased-aim.ensures
    (rw c.decisions.ensures.decisions at c.in_ok-found.ensures.found)

pub returns-clause-settled : goal.returns-clause-settled
returns-clause-settled c s = (rw c.decisions.ensures.decisions at c.in_ok-found.ensures.settled)
    (eased_room c.args.order.now.game c.args.order.now.diagram (choices c.args.order.now.decisions) c.args.aim c.eased-aim.result c.args.limits c.eased-aim.ensures s)
