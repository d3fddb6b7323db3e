use Rattle.std.proofs.lemmas.Grind.{common_steps}
use Rattle.std.proofs.Common.{arith}
use Rattle.vpg_looks.proofs.offers.list_open.Goals as goal

pub returns-clause-offers : goal.returns-clause-offers
returns-clause-offers c = grind (arith, common_steps)

pub returns-clause-named : goal.returns-clause-named
returns-clause-named c = grind (arith, common_steps)

pub returns-then-ne-clause-offers : goal.returns-then-ne-clause-offers
returns-then-ne-clause-offers c = grind (arith, common_steps)

pub offer_of-requires-2-clause-vertex : goal.offer_of-requires-2-clause-vertex
offer_of-requires-2-clause-vertex c = grind (arith, common_steps)

pub offer_of-requires-2-clause-feature : goal.offer_of-requires-2-clause-feature
offer_of-requires-2-clause-feature c = grind (arith, common_steps)

pub offer_of-requires-clause-vertex : goal.offer_of-requires-clause-vertex
offer_of-requires-clause-vertex c = grind (arith, common_steps)

pub offer_of-requires-clause-line : goal.offer_of-requires-clause-line
offer_of-requires-clause-line c = c.requires.line

pub offer_of-requires-2-clause-line : goal.offer_of-requires-2-clause-line
offer_of-requires-2-clause-line c = c.in_ok-inside.ensures.line

pub returns-clause-line : goal.returns-clause-line
returns-clause-line c = c.in_ok-outside.ensures.line
