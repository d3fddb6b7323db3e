use Rattle.std.proofs.Common.{List, sym, subst}
use Rattle.std.proofs.lemmas.Bool.{both_ways}
use Rattle.vpg_partial.specs.declared.decision.Decision.{Decision}
use Rattle.vpg_why.specs.Explained.{choices}
use Rattle.vpg_why.specs.Suffices.{HasTrials}
use Rattle.vpg_winners.proofs.PartLaws.{found_on}
use Rattle.vpg_winners.proofs.finding.search_part.Goals as goal

pub returns-then-is_exact-clause-found : goal.returns-then-is_exact-clause-found
returns-then-is_exact-clause-found c =
    let part = c.in-Some.part in
    found_on c.args.order.now c.args.vertex part.order part.vertex (rw c.in-Some.is at c.in_ok-part.ensures)
    c.args.which c.in_ok-found.found c.in_ok-found.ensures.found

pub returns-clause-found : goal.returns-clause-found
returns-clause-found c =
    let part = c.in-Some.part in
    found_on c.args.order.now c.args.vertex part.order part.vertex (rw c.in-Some.is at c.in_ok-part.ensures)
    c.args.which c.in_ok-found.found c.in_ok-found.ensures.found

pub returns-clause-settled : goal.returns-clause-settled
returns-clause-settled c s =
    absurd (both_ways c.in_ok-is_small.field-0 c.if-branch.false
    (c.in_ok-is_small.ensures (subst (λ (ds : List Decision).
    HasTrials c.args.order.now.diagram.lines (choices ds) c.args.limits.trials) (sym c.decisions.ensures.decisions)
    s.1)))
