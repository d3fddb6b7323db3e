use Rattle.std.proofs.Common.{rules, tests}
use Rattle.std.proofs.lemmas.Iterator.{cases_from_any, YieldsList-from_slice}
use Rattle.vpg_partial.specs.declared.decision.Decision.{Decision}
use Rattle.vpg_why.proofs.Among.{Same, has_by}
use Rattle.vpg_why.proofs.under.has_choice.Goals as goal

pub returns : goal.returns
returns c =
    let one = c.args.one.now in
    has_by c.any.result c.args.decisions.now one
    (cases_from_any _ _ c.any.result (Same one) (λ (d : Decision). Same one d → ⊥) c.any.ensures.ran (YieldsList-from_slice c.args.decisions.now cc)
    (λ x q k. search (rules, tests)) (λ x q k. search (rules, tests)))
