use Rattle.vpg_winners.proofs.gathering.needs_of.Goals as goal

pub returns-clause-needs : goal.returns-clause-needs
returns-clause-needs c aim met =
    let product = c.in-Some.product.items in
    let first = rw c.in-Some.is at c.in_ok-product.ensures.some in
    let both = met.each product first.features first.member in
    ((product, both.0, both.1), c.in_ok-findings.ensures.needs aim met)
