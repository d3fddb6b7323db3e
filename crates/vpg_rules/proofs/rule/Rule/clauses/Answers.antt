use Rattle.std.proofs.Common.{◌≡◌, true, sym, ap, subst, ◌∙◌}
use Rattle.std.specs.Prelude.{◌↔◌}
use Rattle.std.specs.List.{AllByRecursion}
use Rattle.vpg_rules.specs.Constraint.{IsMet}
use Rattle.vpg_rules.specs.Clauses.{clauses_of, MeetsClause}
use Rattle.vpg_rules.specs.Distributing.{clauses_in}
use Rattle.vpg_rules.specs.View.{constraint_of}
use Rattle.vpg_rules.proofs.Limits.{Lists, limited_some}
use Rattle.vpg_rules.proofs.Meaning.{clauses_mean}
use Rattle.vpg_rules.proofs.Below.{ClausesBelow, when_below}
use Rattle.vpg_rules.proofs.rule.Rule.clauses.Goals as goal

pub returns-in-Some-clause-met : goal.returns-in-Some-clause-met
returns-in-Some-clause-met c chosen =
    let rule = constraint_of c.args.self.now in
    let same : c.in-Some.clauses.items ≡ clauses_of rule = (limited_some (clauses_of rule) c.in-Some.clauses.items (ap clauses_in (sym c.in-Some.is ∙ c.into_met.ensures) ∙ c.in-Ok.ensures.met_is)).0 in
    subst (λ (cs : Lists). IsMet rule chosen ↔ AllByRecursion (MeetsClause chosen) cs) (sym same) (clauses_mean rule chosen)

pub returns-in-Some-clause-below : goal.returns-in-Some-clause-below
returns-in-Some-clause-below c n below =
    let rule = constraint_of c.args.self.now in
    let same : c.in-Some.clauses.items ≡ clauses_of rule = (limited_some (clauses_of rule) c.in-Some.clauses.items (ap clauses_in (sym c.in-Some.is ∙ c.into_met.ensures) ∙ c.in-Ok.ensures.met_is)).0 in
    subst (ClausesBelow n) (sym same) (when_below n true rule below)
