use Rattle.vpg_why.specs.declared.question.Aim.TheVariants as aims
use Rattle.vpg_winners.proofs.gathering.needs_by_sets.Goals as goal

pub returns-in-Ok-clause-needs : goal.returns-in-Ok-clause-needs
returns-in-Ok-clause-needs c =
    c.in-Ok.ensures.needs (aims.Won c.args.which c.args.vertex) (rw c.in-Some.is at c.in_ok-met.ensures.met)
