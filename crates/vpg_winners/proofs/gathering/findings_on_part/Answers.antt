use Rattle.vpg_sides.specs.declared.which.Which.TheVariants.{Hopeful, Dual}
use Rattle.vpg_winners.proofs.PartLaws.{findings_on, findings_to}
use Rattle.vpg_winners.proofs.gathering.findings_on_part.Goals as goal

pub search_findings-requires-clause-won : goal.search_findings-requires-clause-won
search_findings-requires-clause-won c =
    let part = c.in-Some.part in
    findings_to c.args.order.now c.args.vertex part.order part.vertex (rw c.in-Some.is at c.in_ok-part.ensures)
    Hopeful c.args.begun.0 c.requires.won

pub search_findings-requires-clause-lost : goal.search_findings-requires-clause-lost
search_findings-requires-clause-lost c =
    let part = c.in-Some.part in
    findings_to c.args.order.now c.args.vertex part.order part.vertex (rw c.in-Some.is at c.in_ok-part.ensures)
    Dual c.args.begun.1 c.requires.lost

pub returns-clause-won : goal.returns-clause-won
returns-clause-won c =
    let part = c.in-Some.part in
    findings_on c.args.order.now c.args.vertex part.order part.vertex (rw c.in-Some.is at c.in_ok-part.ensures)
    Hopeful c.in_ok-found.found.0 c.in_ok-found.ensures.won

pub returns-clause-lost : goal.returns-clause-lost
returns-clause-lost c =
    let part = c.in-Some.part in
    findings_on c.args.order.now c.args.vertex part.order part.vertex (rw c.in-Some.is at c.in_ok-part.ensures)
    Dual c.in_ok-found.found.1 c.in_ok-found.ensures.lost
