use Rattle.vpg_looks.proofs.left.sought.Goals as goal

pub returns-in-Product : goal.returns-in-Product
returns-in-Product c = let it = rw c.in-Product.is at c.in_ok-found.ensures.found in (_, it.remaining)

pub returns-in-Nothing : goal.returns-in-Nothing
returns-in-Nothing c = let it = rw c.in-Nothing.is at c.in_ok-found.ensures.found in λ set remains. it set remains tt

pub returns : goal.returns
returns c = let it = rw c.in-Unsettled.is at c.in_ok-found.ensures.settled in λ ends. it ((λ more known is. tt), ends.1)
