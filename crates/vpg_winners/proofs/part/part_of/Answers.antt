use Rattle.vpg_winners.proofs.PartLaws.{part_is}
use Rattle.vpg_winners.proofs.part.part_of.Goals as goal

pub returns : goal.returns
returns c =
    part_is c.args.order.now c.args.vertex c.in_ok-found.found c.in_ok-found.ensures.features
    c.in_ok-found.ensures.vertex c.in_ok-found.ensures.wins
