use Rattle.std.proofs.lemmas.Grind.{common_steps}
use Rattle.std.proofs.Common.{◌≢◌, false, List, IsTrue, All, get_or, slice_index_or, sym, ap, ◌∙◌, subst, arith}
use Rattle.vpg_partial.specs.Known.{negation}
use Rattle.vpg_partial.specs.KnownTable.{literals_in}
use Rattle.vpg_diagram.specs.declared.clause.Literal.{Literal}
use Rattle.vpg_partial.proofs.ClauseSteps.{missing_when_all_false, missing_when_others_false, closed_when_known, closed_when_two_open}
use Rattle.vpg_partial.proofs.rules.missing_at_clause.Goals as goal

pub returns-in-None-clause-missing : goal.returns-in-None-clause-missing
returns-in-None-clause-missing c =
    let d : Literal = record { feature = 0; value = false } in
    missing_when_all_false c.args.clause.now c.args.known.now c.requires
    (sym (rw c.literals-literals.ensures at c.first_open.ensures) ∙ c.in-None.is)
    (slice_index_or c.literals-literals.result.now 0 d) d (ap (λ (xs : List Literal). get_or xs 0 d) c.literals-literals.ensures)

pub returns-then-is_known-clause-closed : goal.returns-then-is_known-clause-closed
returns-then-is_known-clause-closed c =
    closed_when_known c.args.clause.now c.args.known.now c.in-Some.one
    (sym (rw c.literals-literals.ensures at c.first_open.ensures) ∙ c.in-Some.is)
    (sym c.is_known.ensures ∙ c.if-is_known.true)

pub returns-then-others_false-clause-missing : goal.returns-then-others_false-clause-missing
returns-then-others_false-clause-missing c =
    missing_when_others_false c.args.clause.now c.args.known.now c.in-Some.one c.requires
    (sym (rw c.literals-literals.ensures at c.first_open.ensures) ∙ c.in-Some.is)
    (sym c.is_known.ensures ∙ c.if-is_known.false)
    (subst (λ (xs : List Literal). All (λ l. l ≢ c.in-Some.one → IsTrue (literals_in c.args.known.now (negation l))) xs) c.literals-literals.ensures (c.others_false.ensures.0 c.if-others_false.true))

pub returns-else-others_false-clause-closed : goal.returns-else-others_false-clause-closed
returns-else-others_false-clause-closed c =
    closed_when_two_open c.args.clause.now c.args.known.now c.in-Some.one
    (sym (rw c.literals-literals.ensures at c.first_open.ensures) ∙ c.in-Some.is)
    (λ all. let t = c.others_false.ensures.1 (subst (λ (xs : List Literal). All (λ l. l ≢ c.in-Some.one → IsTrue (literals_in c.args.known.now (negation l))) xs) (sym c.literals-literals.ensures) all) in
    Rattle.std.proofs.lemmas.Bool.both_ways c.others_false.result c.if-others_false.false t)

pub bounds-literals-0 : goal.bounds-literals-0
bounds-literals-0 c = grind (arith, common_steps)
