use Rattle.std.proofs.Common.{Contains, false, refl, sym, ◌∙◌, subst}
use Rattle.std.proofs.lemmas.Bool.{both_ways}
use Rattle.vpg_diagram.specs.Clauses.{MeetsClause}
use Rattle.vpg_diagram.proofs.Lists.{All-contained, All-take_step, All-taken_all}
use Rattle.vpg_diagram.proofs.product.meets_clauses.Goals as goal

pub loop-clause-preserved : goal.loop-clause-preserved
loop-clause-preserved c =
    All-take_step (MeetsClause c.args.features.now) c.args.clauses.now c.loop-clause.clause-index c.clause-item.result c.loop-clause-test.true c.loop-clause.invariant
    (subst (MeetsClause c.args.features.now) c.clause-item.is (c.meets_clause.ensures.0 c.if-not-meets_clause.false))

pub returns-then-not-meets_clause : goal.returns-then-not-meets_clause
returns-then-not-meets_clause c =
    let within : Contains c.args.clauses.now c.clause-item.result = (c.loop-clause.clause-index, c.loop-clause-test.true, sym c.clause-item.is) in (
      λ t. absurd (both_ways false refl t),
      λ all. sym c.if-not-meets_clause.true ∙ c.meets_clause.ensures.1 (All-contained (MeetsClause c.args.features.now) c.args.clauses.now c.clause-item.result all within),
    )

pub returns : goal.returns
returns c =
    (λ t. All-taken_all (MeetsClause c.args.features.now) c.args.clauses.now c.loop-clause.clause-index c.loop-clause-test.false c.loop-clause.invariant, λ all. refl)
