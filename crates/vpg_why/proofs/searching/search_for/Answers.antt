use Rattle.std.proofs.Common.{◌+◌, arith}
use Rattle.vpg_why.specs.Explained.{choices}
use Rattle.vpg_why.proofs.Rooms.{whole_room}
use Rattle.vpg_why.proofs.searching.search_for.Goals as goal

pub returns-clause-settled : goal.returns-clause-settled
returns-clause-settled c small enough s =
    let count = rw (c.deref.ensures, c.diagram.ensures.diagram) at c.features.ensures.count in
    let e = s.1.enough in
    c.in_ok-found.ensures.settled small
    (whole_room c.args.order.now.diagram (choices c.args.decisions.now) (c.features.result + 1) c.args.trials.now (omega (arith, count)) (record { most = s.1.most; are_open = s.1.are_open; enough = omega (arith, enough, e) })) s.0
