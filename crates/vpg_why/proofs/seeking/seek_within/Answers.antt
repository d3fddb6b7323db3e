use Rattle.std.proofs.Common.{◌+◌, arith}
use Rattle.vpg_why.specs.Explained.{choices}
use Rattle.vpg_why.proofs.Reasons.{nothing_is_lost}
use Rattle.vpg_why.proofs.Rooms.{whole_room}
use Rattle.vpg_why.proofs.seeking.seek_within.Goals as goal

pub returns-in-Product-clause-found : goal.returns-in-Product-clause-found
returns-in-Product-clause-found c = let p = rw c.in-Product.is at c.in_ok-example.ensures.found in (p.remaining, p.meets)

pub returns-in-Nothing-clause-found : goal.returns-in-Nothing-clause-found
returns-in-Nothing-clause-found c =
    nothing_is_lost c.args.order.now.game c.args.order.now.diagram c.args.aim (choices c.args.decisions.now) c.in-Nothing.field-0.items
    (rw c.in-Nothing.is at c.in_ok-example.ensures.found)

pub returns-clause-settled : goal.returns-clause-settled
returns-clause-settled c small settles has e =
    let count = rw (c.deref.ensures, c.diagram.ensures.diagram) at c.features.ensures.count in
    absurd ((rw c.in-Unsettled.is at c.in_ok-example.ensures.settled) small
    (whole_room c.args.order.now.diagram (choices c.args.decisions.now) (c.features.result + 1) c.args.trials.now (omega (arith, count)) has) settles)
