use Rattle.std.proofs.Common.{Contains, rules, tests}
use Rattle.std.proofs.lemmas.Iterator.{cases_from_all, YieldsList-from_slice}
use Rattle.vpg_partial.specs.Known.{literal_of}
use Rattle.vpg_partial.specs.declared.decision.Decision.{Decision}
use Rattle.vpg_why.specs.Explained.{choices}
use Rattle.vpg_why.proofs.Among.{are_by}
use Rattle.vpg_why.proofs.under.are_among.Goals as goal

pub returns : goal.returns
returns c =
    let many = choices c.args.many.now in
    are_by c.all.result c.args.few.now many
    (cases_from_all _ _ c.all.result (λ (d : Decision). Contains many (literal_of d)) (λ (d : Decision). Contains many (literal_of d) → ⊥) c.all.ensures.ran (YieldsList-from_slice c.args.few.now cc)
    (λ x q k. search (rules, tests)) (λ x q k. search (rules, tests)))
