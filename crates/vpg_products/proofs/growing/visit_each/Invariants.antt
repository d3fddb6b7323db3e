use Rattle.vpg_products.specs.Growing.{GrowsBy}
use Rattle.vpg_products.proofs.growing.visit_each.Given as goal

abbrev pub invariant-loop-number : goal.invariant-loop-number
invariant-loop-number l = GrowsBy l.diagram.lines l.initial.known l.known
