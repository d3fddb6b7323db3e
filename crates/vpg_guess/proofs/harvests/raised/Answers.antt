use Rattle.vpg_measure.proofs.RaisedTables.{raised_from_order}
use Rattle.vpg_guess.proofs.harvests.raised.Goals as goal

pub returns-clause-raised : goal.returns-clause-raised
returns-clause-raised c = rw c.into_table-table.ensures.same (raised_from_order c.args.which c.args.order.now c.raise.new.self.table c.table.ensures.order
    (rw (c.in_ok-table.ensures, c.table.ensures.table) at c.raise.ensures.raised.above)
    (rw (c.in_ok-table.ensures, c.table.ensures.table, c.shape.ensures, c.arena.ensures) at c.raise.ensures.raised.below))

pub returns-clause-round : goal.returns-clause-round
returns-clause-round c = rw c.into_table-table.ensures.same
    (rw (c.in_ok-table.ensures, c.table.ensures.table, c.shape.ensures, c.arena.ensures) at c.raise.ensures.round)
