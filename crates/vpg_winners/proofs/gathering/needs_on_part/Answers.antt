use Rattle.std.proofs.Common.{List, sym, subst}
use Rattle.std.proofs.lemmas.Bool.{both_ways}
use Rattle.vpg_partial.specs.declared.decision.Decision.{Decision}
use Rattle.vpg_why.specs.Explained.{choices}
use Rattle.vpg_why.specs.Suffices.{HasTrials}
use Rattle.vpg_winners.proofs.PartLaws.{needs_on}
use Rattle.vpg_winners.proofs.gathering.needs_on_part.Goals as goal

pub returns-then-are_exact-clause-needs : goal.returns-then-are_exact-clause-needs
returns-then-are_exact-clause-needs c =
    let part = c.in-Some.part in
    needs_on c.args.order.now c.args.vertex part.order part.vertex (rw c.in-Some.is at c.in_ok-part.ensures)
    c.args.which c.in_ok-found.found c.in_ok-found.ensures.needs

pub returns-clause-needs : goal.returns-clause-needs
returns-clause-needs c =
    let part = c.in-Some.part in
    needs_on c.args.order.now c.args.vertex part.order part.vertex (rw c.in-Some.is at c.in_ok-part.ensures)
    c.args.which c.in_ok-found.found c.in_ok-found.ensures.needs

pub returns-clause-settled : goal.returns-clause-settled
returns-clause-settled c s =
    absurd (both_ways c.in_ok-is_small.field-0 c.if-branch.false
    (c.in_ok-is_small.ensures (subst (λ (ds : List Decision).
    HasTrials c.args.order.now.diagram.lines (choices ds) c.args.limits.trials) (sym c.decisions.ensures.decisions)
    s.1)))
