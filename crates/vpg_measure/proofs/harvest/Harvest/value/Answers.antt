use Rattle.std.proofs.Common.{length, ap, arith}
use Rattle.vpg_measure.proofs.OrderLemmas.{arena_count}
use Rattle.vpg_measure.proofs.harvest.Harvest.value.Goals as goal

pub get-requires : goal.get-requires
get-requires c =
    let harvest = c.args.self.now in
    let table = (c.table.ensures.harvest.below c.args.which).is_table in
    omega (arith, c.requires, ap length c.table.ensures.table, table.len, arena_count harvest.order.known c.args.which harvest.order.game)
