use Rattle.std.proofs.Common.{◌∙◌}
use Rattle.vpg_guess.proofs.Rounds.{above_rounds, settles}
use Rattle.vpg_guess.proofs.harvests.harvest_of.Goals as goal

pub noted_where-requires : goal.noted_where-requires
noted_where-requires c = λ hopeful dual. settles c.args.order c.of-harvest.result c.of-harvest.ensures.order c.args.hopeful.table c.args.dual.table
    (c.of-harvest.ensures.hopeful ∙ c.into_values.ensures) (c.of-harvest.ensures.dual ∙ c.into_values-2.ensures)
    (c.requires.hopeful_settled hopeful) (c.requires.dual_settled dual)

pub returns-clause-round : goal.returns-clause-round
returns-clause-round c = rw c.noted_where.ensures (above_rounds c.args.order c.of-harvest.result c.args.hopeful.table c.args.dual.table
    (c.of-harvest.ensures.hopeful ∙ c.into_values.ensures) (c.of-harvest.ensures.dual ∙ c.into_values-2.ensures)
    c.requires.hopeful_round c.requires.dual_round)
