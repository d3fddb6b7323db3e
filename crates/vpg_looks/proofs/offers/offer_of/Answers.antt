use Rattle.std.proofs.Common.{◌++◌, ◌∷◌, []}
use Rattle.vpg_why.specs.Explained.{choices}
use Rattle.vpg_looks.proofs.Offering.{foreseen_in}
use Rattle.vpg_looks.proofs.offers.offer_of.Goals as goal

pub foresee-requires-clause-won : goal.foresee-requires-clause-won
foresee-requires-clause-won c = c.requires.line.won

pub foresee-requires-clause-lost : goal.foresee-requires-clause-lost
foresee-requires-clause-lost c = c.requires.line.lost

pub foresee-requires-clause-spared : goal.foresee-requires-clause-spared
foresee-requires-clause-spared c = c.requires.line.spared

pub returns-clause-offer : goal.returns-clause-offer
returns-clause-offer c =
    let order = c.args.order.now in
    rw c.prospect_by-prospect.ensures
    (foreseen_in order.game order.diagram c.args.limits c.args.vertex (choices order.decisions ++ c.args.choice ∷ []) c.game-order.ensures.order.game c.requires.vertex
    c.in_ok-foresight.foresight c.in_ok-foresight.ensures.foreseen)

pub returns-clause-line : goal.returns-clause-line
returns-clause-line c = record {
  won = c.in_ok-foresight.ensures.won;
  lost = c.in_ok-foresight.ensures.lost;
  spared = c.requires.line.spared;
}
