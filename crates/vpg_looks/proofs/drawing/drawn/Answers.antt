use Rattle.std.proofs.lemmas.Grind.{common_steps}
use Rattle.std.proofs.Common.{arith}
use Rattle.vpg_sides.specs.declared.which.Which.TheVariants.{Hopeful, Dual}
use Rattle.vpg_measure.proofs.OrderLemmas.{table_count}
use Rattle.vpg_looks.proofs.drawing.drawn.Goals as goal

pub part_over-requires-clause-hopeful : goal.part_over-requires-clause-hopeful
part_over-requires-clause-hopeful c =
    rw (c.hopeful.ensures, c.deref.ensures, c.game.ensures.game) (table_count c.args.order.now c.game.ensures.order Hopeful)

pub part_over-requires-clause-dual : goal.part_over-requires-clause-dual
part_over-requires-clause-dual c =
    rw (c.dual.ensures, c.deref.ensures, c.game.ensures.game) (table_count c.args.order.now c.game.ensures.order Dual)

pub part_over-requires-clause-games : goal.part_over-requires-clause-games
part_over-requires-clause-games c = grind (arith, common_steps)

pub returns : goal.returns
returns c =
    rw (c.deref.ensures, c.game.ensures.game, c.deref-2.ensures, c.diagram.ensures.diagram, c.decisions.ensures.decisions, c.hopeful.ensures, c.dual.ensures) at c.part_over.ensures

pub part_over-requires-clause-named : goal.part_over-requires-clause-named
part_over-requires-clause-named c = grind (arith, common_steps)

pub part_over-requires-clause-vertex : goal.part_over-requires-clause-vertex
part_over-requires-clause-vertex c = grind (arith, common_steps)

pub part_over-requires-clause-features : goal.part_over-requires-clause-features
part_over-requires-clause-features c = grind (arith, common_steps)
