use Rattle.vpg_looks.proofs.Telling.{needs_below}
use Rattle.vpg_looks.proofs.needs.tell_demand.Goals as goal

pub tell-requires : goal.tell-requires
tell-requires c =
    let found = rw c.in-These.is at c.requires in
    rw (c.deref.ensures.value, c.names-names.ensures.names)
    (needs_below c.args.order.now c.names-names.ensures.order c.in-These.found.literals.items found.1.named)
