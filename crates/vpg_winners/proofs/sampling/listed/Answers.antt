use Rattle.vpg_sets.specs.Sets.{has}
use Rattle.vpg_winners.proofs.Samples.{all_listed}
use Rattle.vpg_winners.proofs.sampling.listed.Goals as goal

pub returns-in-Some-clause-each : goal.returns-in-Some-clause-each
returns-in-Some-clause-each c =
    all_listed (has c.args.sets.now c.args.set) c.args.sets.now.features c.in-Some.products.items
    (rw c.in-Some.is at c.in_ok-products.ensures.products)

pub returns-in-Some-clause-distinct : goal.returns-in-Some-clause-distinct
returns-in-Some-clause-distinct c = (rw c.in-Some.is at c.in_ok-products.ensures.products).distinct
