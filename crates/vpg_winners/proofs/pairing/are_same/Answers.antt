use Rattle.vpg_winners.proofs.Marking.{not_full}
use Rattle.vpg_winners.proofs.pairing.are_same.Goals as goal

pub returns-then-same_front-one : goal.returns-then-same_front-one
returns-then-same_front-one c = (
  λ e. cc,
  λ e. absurd (not_full c.args.one.now c.args.other.now c.same_front.result c.if-same_front-one.true c.same_front.ensures.stops e),
)
