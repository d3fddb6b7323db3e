use Rattle.vpg_why.specs.Explained.{choices}
use Rattle.vpg_why.specs.declared.question.Aim.TheVariants as aims
use Rattle.vpg_winners.proofs.MetSets.{first_is_found}
use Rattle.vpg_winners.proofs.finding.find_first.Goals as goal

pub returns-in-Some-2-clause-found : goal.returns-in-Some-2-clause-found
returns-in-Some-2-clause-found c =
    let order = c.args.order.now in
    let met = c.in-Some-2.met in
    first_is_found order.game order.diagram (aims.Won c.args.which c.args.vertex) (choices order.decisions) met.sets
    met.set (rw c.in-Some-2.is at c.in_ok-met.ensures.met) c.in_ok-found-2.found c.in_ok-found-2.ensures
