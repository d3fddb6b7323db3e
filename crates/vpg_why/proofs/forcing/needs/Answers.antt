use Rattle.vpg_why.specs.Explained.{choices}
use Rattle.vpg_why.specs.declared.forcing.Demand.TheVariants as demands
use Rattle.vpg_why.proofs.Eased.{eased_aim, eased_room, needs_eased}
use Rattle.vpg_why.proofs.forcing.needs.Goals as goal

pub search_all-requires-clause-aim : goal.search_all-requires-clause-aim
search_all-requires-clause-aim c = eased_aim c.args.order.now.game c.args.order.now.diagram (choices c.args.order.now.decisions) c.args.aim c.eased-aim.result c.eased-aim.ensures c.requires

pub returns-in-Nothing-clause-needs : goal.returns-in-Nothing-clause-needs
returns-in-Nothing-clause-needs c =
    needs_eased c.args.order.now.game c.args.order.now.diagram (choices c.args.order.now.decisions) c.args.aim c.eased-aim.result demands.Nothing c.eased-aim.ensures
    (rw (c.in-Nothing.is, c.decisions-decisions.ensures.decisions) at c.in_ok-example.ensures.found)

pub returns-in-Unsettled-clause-settled : goal.returns-in-Unsettled-clause-settled
returns-in-Unsettled-clause-settled c s =
    (rw (c.in-Unsettled.is, c.decisions-decisions.ensures.decisions) at c.in_ok-example.ensures.settled)
    (eased_room c.args.order.now.game c.args.order.now.diagram (choices c.args.order.now.decisions) c.args.aim c.eased-aim.result c.args.limits c.eased-aim.ensures s)

pub returns-clause-needs : goal.returns-clause-needs
returns-clause-needs c =
    let p = rw (c.in-Product.is, c.decisions-decisions.ensures.decisions) at c.in_ok-example.ensures.found in
    needs_eased c.args.order.now.game c.args.order.now.diagram (choices c.args.order.now.decisions) c.args.aim c.eased-aim.result (demands.These c.in_ok-found.found) c.eased-aim.ensures
    ((c.in-Product.example.features.items, p.remaining, p.meets), c.in_ok-found.ensures.needs)

pub returns-clause-settled : goal.returns-clause-settled
returns-clause-settled c s = c.in_ok-found.ensures.settled
    (eased_room c.args.order.now.game c.args.order.now.diagram (choices c.args.order.now.decisions) c.args.aim c.eased-aim.result c.args.limits c.eased-aim.ensures s)
