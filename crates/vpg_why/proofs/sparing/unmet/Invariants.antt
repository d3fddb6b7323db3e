use Rattle.vpg_partial.specs.TableLaws.{AreChoicesOf}
use Rattle.vpg_why.proofs.sparing.unmet.Given as goal

abbrev pub invariant-listing : goal.invariant-listing
invariant-listing l = AreChoicesOf l.order.diagram.lines l.literals.items
