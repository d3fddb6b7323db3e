use Rattle.vpg_products.specs.Growing.{GrowsBy}
use Rattle.vpg_products.proofs.growing.grow_on.Given as goal

abbrev pub invariant-loop : goal.invariant-loop
invariant-loop l = GrowsBy l.diagram.lines l.initial.known l.known
