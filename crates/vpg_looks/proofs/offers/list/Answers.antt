use Rattle.std.proofs.lemmas.Grind.{common_steps}
use Rattle.std.proofs.Common.{arith}
use Rattle.vpg_looks.proofs.offers.list.Goals as goal

pub listing-preserved : goal.listing-preserved
listing-preserved c = grind (arith, common_steps)

pub returns-clause-offers : goal.returns-clause-offers
returns-clause-offers c = grind (arith, common_steps)

pub listing-init : goal.listing-init
listing-init c = let line = c.in_ok-line.ensures in grind (arith, common_steps, line)

pub list_open-requires-clause-feature : goal.list_open-requires-clause-feature
list_open-requires-clause-feature c = grind (arith, common_steps)

pub list_open-requires-clause-line : goal.list_open-requires-clause-line
list_open-requires-clause-line c = c.listing.invariant.2
