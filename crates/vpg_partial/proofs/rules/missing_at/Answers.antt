use Rattle.std.proofs.lemmas.Grind.{common_steps}
use Rattle.std.proofs.Common.{length, ◌-◌, refl, arith}
use Rattle.std.proofs.lemmas.Option.{slice_get_read}
use Rattle.vpg_partial.proofs.RuleSteps.{missing_by_clause, mentioned_by_clause, closed_by_clause, missing_by_count, mentioned_by_count, closed_by_count, no_rule}
use Rattle.vpg_partial.proofs.rules.missing_at.Goals as goal

pub returns-in-Some-clause-missing : goal.returns-in-Some-clause-missing
returns-in-Some-clause-missing c =
    missing_by_clause c.args.clauses.now c.args.counts.now c.args.known.now c.args.number c.in-Some.clause.now c.missing_at_clause.result
    (slice_get_read c.args.clauses.now (length c.args.clauses.now) c.args.number c.in-Some.clause.now refl c.in-Some.ensures.lookup.3.0 c.in-Some.ensures.lookup.1)
    c.missing_at_clause.ensures.missing

pub returns-in-Some-clause-mentioned : goal.returns-in-Some-clause-mentioned
returns-in-Some-clause-mentioned c =
    mentioned_by_clause c.args.clauses.now c.args.counts.now c.args.known.now c.args.number c.in-Some.clause.now c.missing_at_clause.result
    (slice_get_read c.args.clauses.now (length c.args.clauses.now) c.args.number c.in-Some.clause.now refl c.in-Some.ensures.lookup.3.0 c.in-Some.ensures.lookup.1)
    c.missing_at_clause.ensures.missing

pub returns-in-Some-clause-closed : goal.returns-in-Some-clause-closed
returns-in-Some-clause-closed c =
    closed_by_clause c.args.clauses.now c.args.counts.now c.args.known.now c.args.number c.in-Some.clause.now c.missing_at_clause.result
    (slice_get_read c.args.clauses.now (length c.args.clauses.now) c.args.number c.in-Some.clause.now refl c.in-Some.ensures.lookup.3.0 c.in-Some.ensures.lookup.1)
    c.missing_at_clause.ensures.closed

pub returns-in-Some-get-clause-missing : goal.returns-in-Some-get-clause-missing
returns-in-Some-get-clause-missing c =
    missing_by_count c.args.clauses.now c.args.counts.now c.args.known.now c.args.number c.in-Some-get.count.now c.missing_at_count.result
    (slice_get_read c.args.counts.now (length c.args.counts.now) (c.args.number - length c.args.clauses.now) c.in-Some-get.count.now refl c.in-Some-get.ensures.lookup.3.0 c.in-Some-get.ensures.lookup.1)
    c.missing_at_count.ensures.missing

pub returns-in-Some-get-clause-mentioned : goal.returns-in-Some-get-clause-mentioned
returns-in-Some-get-clause-mentioned c =
    mentioned_by_count c.args.clauses.now c.args.counts.now c.args.known.now c.args.number c.in-Some-get.count.now c.missing_at_count.result c.in-None.ensures.lookup.3
    (slice_get_read c.args.counts.now (length c.args.counts.now) (c.args.number - length c.args.clauses.now) c.in-Some-get.count.now refl c.in-Some-get.ensures.lookup.3.0 c.in-Some-get.ensures.lookup.1)
    c.missing_at_count.ensures.missing

pub returns-in-Some-get-clause-closed : goal.returns-in-Some-get-clause-closed
returns-in-Some-get-clause-closed c =
    closed_by_count c.args.clauses.now c.args.counts.now c.args.known.now c.args.number c.in-Some-get.count.now c.missing_at_count.result c.in-None.ensures.lookup.3
    (slice_get_read c.args.counts.now (length c.args.counts.now) (c.args.number - length c.args.clauses.now) c.in-Some-get.count.now refl c.in-Some-get.ensures.lookup.3.0 c.in-Some-get.ensures.lookup.1)
    c.missing_at_count.ensures.closed

pub returns-in-None-get-clause-closed : goal.returns-in-None-get-clause-closed
returns-in-None-get-clause-closed c =
    λ rule h. absurd (no_rule c.args.clauses.now c.args.counts.now c.args.number c.in-None.ensures.lookup.3 c.in-None-get.ensures.lookup.3 rule h)

pub missing_at_count-requires : goal.missing_at_count-requires
missing_at_count-requires c = grind (arith, common_steps)

pub missing_at_clause-requires : goal.missing_at_clause-requires
missing_at_clause-requires c = grind (arith, common_steps)
