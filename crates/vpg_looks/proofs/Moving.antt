-- Either table, as it is named in a scene.
use Rattle.std.proofs.Common.{◌≡◌, refl}
use Rattle.vpg_measure.specs.Orders.{OrderView, order_table}
use Rattle.vpg_sides.specs.declared.which.Which.{Which}
use Rattle.vpg_sides.specs.declared.which.Which.TheVariants.{Hopeful, Dual}
use Rattle.vpg_texts.specs.Scene.{table_in}

pub table_is : (order : OrderView) (which : Which) → order_table which order ≡ table_in order.hopeful order.dual which
table_is order Hopeful = refl
table_is order Dual = refl
