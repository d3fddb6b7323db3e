use Rattle.vpg_sides.specs.declared.which.Which.TheVariants.{Hopeful, Dual}
use Rattle.vpg_board.proofs.Kept.{order_edges, both_listed}
use Rattle.std.proofs.Common.{arith}
use Rattle.std.proofs.lemmas.Grind.{common_steps}
use Rattle.vpg_board.proofs.predecessors.Predecessors.of.Goals as goal

pub of-requires : goal.of-requires
of-requires c = order_edges c.args.order.now Hopeful c.arena.result.now c.game.ensures.order c.arena.ensures

pub of-requires-2 : goal.of-requires-2
of-requires-2 c = order_edges c.args.order.now Dual c.arena-2.result.now c.game.ensures.order c.arena-2.ensures

pub invariant_of-result : goal.invariant_of-result
invariant_of-result c = grind (arith, common_steps)

pub returns-clause-edges : goal.returns-clause-edges
returns-clause-edges c = both_listed c.args.order.now c.arena.result.now c.arena-2.result.now _ c.arena.ensures c.arena-2.ensures c.in_ok-hopeful.ensures.edges c.in_ok-dual.ensures.edges
