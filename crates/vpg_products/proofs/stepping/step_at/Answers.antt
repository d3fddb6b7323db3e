use Rattle.std.proofs.lemmas.Grind.{common_steps}
use Rattle.std.proofs.Common.{◌-◌, length, refl, arith}
use Rattle.std.proofs.lemmas.Option.{slice_get_read}
use Rattle.vpg_products.proofs.Rules.{step_of_clause, step_of_count}
use Rattle.vpg_products.proofs.stepping.step_at.Goals as goal

pub returns-in-Some : goal.returns-in-Some
returns-in-Some c =
    step_of_clause c.args.clauses.now c.args.counts.now c.args.known.now c.args.number c.in-Some.clause.now c.step_at_clause.result
    (slice_get_read c.args.clauses.now (length c.args.clauses.now) c.args.number c.in-Some.clause.now refl c.in-Some.ensures.lookup.3.0 c.in-Some.ensures.lookup.1)
    c.step_at_clause.ensures

pub returns-in-Some-get : goal.returns-in-Some-get
returns-in-Some-get c =
    step_of_count c.args.clauses.now c.args.counts.now c.args.known.now (c.args.number - length c.args.clauses.now) c.in-Some-get.count.now c.step_at_count.result
    (slice_get_read c.args.counts.now (length c.args.counts.now) (c.args.number - length c.args.clauses.now) c.in-Some-get.count.now refl c.in-Some-get.ensures.lookup.3.0 c.in-Some-get.ensures.lookup.1)
    c.step_at_count.ensures

pub step_at_count-requires : goal.step_at_count-requires
step_at_count-requires c = grind (arith, common_steps)

pub step_at_clause-requires : goal.step_at_clause-requires
step_at_clause-requires c = grind (arith, common_steps)
