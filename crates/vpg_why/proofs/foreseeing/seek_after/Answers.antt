use Rattle.vpg_why.specs.Explained.{choices}
use Rattle.vpg_why.proofs.Beside.{named_one}
use Rattle.vpg_why.proofs.Eased.{eased_aim}
use Rattle.vpg_why.proofs.Ahead.{forced_eased, room_eased, sought_eased}
use Rattle.vpg_why.proofs.foreseeing.seek_after.Goals as goal

pub is_small-requires : goal.is_small-requires
is_small-requires c = rw (c.deref.ensures.value, c.in_ok-more.ensures, c.decisions.ensures.decisions)
    (named_one c.args.order.now.diagram.lines (choices c.args.order.now.decisions) c.args.choice c.decisions.ensures.order.named c.requires.feature)

pub seek_beside-requires-clause-aim : goal.seek_beside-requires-clause-aim
seek_beside-requires-clause-aim c =
    eased_aim c.args.order.now.game c.args.order.now.diagram (choices c.args.order.now.decisions) c.args.aim c.eased.result c.eased.ensures c.requires.aim

pub seek_beside-requires-clause-named : goal.seek_beside-requires-clause-named
seek_beside-requires-clause-named c = rw c.deref-3.ensures.value c.requires.findings.named

pub seek_beside-requires-clause-forced : goal.seek_beside-requires-clause-forced
seek_beside-requires-clause-forced c l h =
    let order = c.args.order.now in
    forced_eased order.game order.diagram c.args.aim (choices order.decisions) c.eased.result l c.eased.ensures (c.requires.findings.forced l (rw c.deref-3.ensures.value at h))

pub returns-clause-found : goal.returns-clause-found
returns-clause-found c =
    let order = c.args.order.now in
    sought_eased order.game order.diagram c.args.aim (choices order.decisions) c.eased.result c.args.choice c.in_ok-found.found c.eased.ensures c.in_ok-found.ensures.found

pub returns-clause-settled : goal.returns-clause-settled
returns-clause-settled c s =
    let order = c.args.order.now in
    c.in_ok-found.ensures.settled ((rw (c.deref.ensures.value, c.in_ok-more.ensures, c.decisions.ensures.decisions) at c.in_ok-is_small.ensures) s.1)
    (room_eased order.game order.diagram c.args.aim (choices order.decisions) c.eased.result c.args.limits c.args.choice c.eased.ensures s)
