use Rattle.vpg_why.specs.Explained.{choices}
use Rattle.vpg_why.proofs.Fronts.{without_among, without_named}
use Rattle.vpg_looks.specs.Repairs.{without}
use Rattle.vpg_looks.proofs.Trying.{nothing_stays}
use Rattle.vpg_looks.proofs.retracting.effect_without.Goals as goal

pub returns-then-are_among : goal.returns-then-are_among
returns-then-are_among c =
    let order = c.args.order.now in
    let among = rw (c.deref.ensures.value, c.in_ok-kept.ensures, c.decisions.ensures.decisions) at (c.are_among.ensures.0 c.if-are_among.true) in
    nothing_stays order.game order.diagram c.args.vertex (choices c.args.reason.now) (choices (without c.args.place order.decisions)) c.decisions.ensures.order.diagram
    (without_named order.diagram.lines c.args.place order.decisions c.decisions.ensures.order.named) among c.args.limits c.args.was_hopeless c.requires.reason

pub order_under-requires : goal.order_under-requires
order_under-requires c = rw (c.deref-2.ensures.value, c.in_ok-kept.ensures, c.decisions.ensures.decisions) (without_among c.args.place c.args.order.now.decisions)

pub effect_of-requires-clause-named : goal.effect_of-requires-clause-named
effect_of-requires-clause-named c =
    rw (c.in_ok-under.ensures.diagram, c.deref-3.ensures.value, c.in_ok-kept.ensures, c.decisions.ensures.decisions) (without_named c.args.order.now.diagram.lines c.args.place c.args.order.now.decisions c.decisions.ensures.order.named)

pub returns : goal.returns
returns c = rw (c.in_ok-under.ensures.game, c.in_ok-under.ensures.diagram, c.deref-3.ensures.value, c.in_ok-kept.ensures, c.decisions.ensures.decisions) at c.in_ok-found.ensures
