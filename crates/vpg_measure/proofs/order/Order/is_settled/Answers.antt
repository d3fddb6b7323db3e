use Rattle.vpg_measure.proofs.order.Order.is_settled.Goals as goal

pub returns : goal.returns
returns c = rw (c.shape.ensures, c.arena.ensures, c.table.ensures.table) at c.is_progress.ensures
