use Rattle.vpg_looks.proofs.Telling.{listed_below}
use Rattle.vpg_looks.proofs.losses.tell_why.Goals as goal

pub tell-requires-clause-listed : goal.tell-requires-clause-listed
tell-requires-clause-listed c =
    let explains = rw c.in-Because.is at c.requires.why in
    rw (c.deref.ensures.value, c.names-names.ensures.names)
    (listed_below c.args.order.now c.names-names.ensures.order c.in-Because.found.decisions.items explains.among)
