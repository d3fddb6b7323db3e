use Rattle.std.proofs.Common.{◌≡◌, length}
use Rattle.std.specs.Arc.{arc_value}
use Rattle.vpg_sides.specs.declared.which.Which.TheVariants.{Hopeful, Dual}
use Rattle.vpg_small_family.proofs.orders.order_of.Goals as goal

count : (c : goal.In_ok-dual) → c.vertices-vertices.result ≡ length (arc_value c.args.game).vertices
count c = rw c.deref.ensures at c.vertices-vertices.ensures.count

pub of-requires-2-clause-hopeful : goal.of-requires-2-clause-hopeful
of-requires-2-clause-hopeful c = rw c.in_ok-hopeful.ensures.zero
    (c.zeros_are_opening.ensures (arc_value c.args.game) (arc_value c.args.diagram) c.args.decisions.items Hopeful c.vertices-vertices.result (count c))

pub of-requires-2-clause-dual : goal.of-requires-2-clause-dual
of-requires-2-clause-dual c = rw c.in_ok-dual.ensures.zero
    (c.zeros_are_opening.ensures (arc_value c.args.game) (arc_value c.args.diagram) c.args.decisions.items Dual c.vertices-vertices.result (count c))
