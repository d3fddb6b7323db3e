use Rattle.std.proofs.Common.{◌<◌, sym, subst}
use Rattle.vpg_measure.proofs.OrderLemmas.{table_count}
use Rattle.vpg_looks.proofs.winning.has_top.Goals as goal

pub get-requires : goal.get-requires
get-requires c = rw c.table.ensures.table (subst (λ n. c.args.vertex < n) (sym (table_count c.args.order.now c.table.ensures.order c.args.which)) c.requires)
