use Rattle.std.proofs.Common.{[], ◌∷◌, ◌++◌}
use Rattle.vpg_why.specs.Explained.{choices}
use Rattle.vpg_why.specs.Suffices.{choice}
use Rattle.vpg_why.proofs.Beside.{named_beside, named_one, settled_beside, sought_beside}
use Rattle.vpg_why.proofs.forcing.seek_beside.Goals as goal

pub seek_beyond-requires-clause-named : goal.seek_beyond-requires-clause-named
seek_beyond-requires-clause-named c =
    rw (c.deref-2.ensures.value, c.in_ok-more.ensures, c.deref.ensures.value, c.in_ok-one.ensures, c.decisions.ensures.decisions)
    (named_beside c.args.order.now.diagram.lines (choices c.args.order.now.decisions) (choice c.args.feature c.args.value) c.args.forced.now c.decisions.ensures.order.named c.requires.feature c.requires.named)

pub returns-clause-found : goal.returns-clause-found
returns-clause-found c =
    sought_beside c.args.order.now.game c.args.order.now.diagram c.args.aim (choices c.args.order.now.decisions) (choice c.args.feature c.args.value) c.args.forced.now c.requires.forced c.in_ok-found.found
    (rw (c.deref-2.ensures.value, c.in_ok-more.ensures, c.deref.ensures.value, c.in_ok-one.ensures, c.decisions.ensures.decisions) at c.in_ok-found.ensures.found)

pub returns-clause-settled : goal.returns-clause-settled
returns-clause-settled c small s =
    (rw (c.deref-2.ensures.value, c.in_ok-more.ensures, c.deref.ensures.value, c.in_ok-one.ensures, c.decisions.ensures.decisions) at c.in_ok-found.ensures.settled) small
    (settled_beside c.args.order.now.game c.args.order.now.diagram c.args.limits c.args.aim (choices c.args.order.now.decisions ++ choice c.args.feature c.args.value ∷ []) c.args.forced.now
    c.decisions.ensures.order.diagram
    (named_one c.args.order.now.diagram.lines (choices c.args.order.now.decisions) (choice c.args.feature c.args.value) c.decisions.ensures.order.named c.requires.feature) s)
