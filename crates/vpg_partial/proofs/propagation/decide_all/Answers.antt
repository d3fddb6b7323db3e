use Rattle.std.proofs.lemmas.Grind.{common_steps}
use Rattle.std.proofs.Common.{◌≡◌, ℕ, ◌+◌, ◌<◌, List, map, take, length, Result, Err, Some, slice_get, slice_index_or, option_map, sym, ap, ◌∙◌, subst, arith}
use Rattle.std.proofs.lemmas.List.{take_all, length-map}
use Rattle.std.proofs.lemmas.Option.{slice_get-get_or, slice_get-map}
use Rattle.vpg_partial.specs.Known.{literal_of}
use Rattle.vpg_partial.specs.KnownTable.{IsClosedTable}
use Rattle.vpg_partial.specs.declared.decision.Decision.{Decision}
use Rattle.vpg_partial.specs.declared.propagation.Stop.{Stop}
use Rattle.vpg_diagram.specs.declared.clause.Literal.{Literal}
use Rattle.vpg_partial.proofs.CloseLemmas.{first_table, first_conflict, next_table, next_conflict, close_fault}
use Rattle.vpg_partial.proofs.propagation.decide_all.Goals as goal

no_decision : Decision
no_decision = record { serial = 0; session = 0; feature = 0; value = Rattle.std.proofs.Common.false }

-- the choice at a place
choice_at : (decisions : List Decision) (i : ℕ) → i < length decisions → slice_get (map literal_of decisions) i ≡ Some (literal_of (slice_index_or decisions i no_decision))
choice_at decisions i l = slice_get-map literal_of decisions i ∙ ap (option_map literal_of) (slice_get-get_or decisions i no_decision l)

pub returns-in-Err-clause-fault : goal.returns-in-Err-clause-fault
returns-in-Err-clause-fault c =
    close_fault c.args.clauses.now c.args.counts.now (map literal_of c.args.decisions.now) c.in-Err.stop c.named.result 0 c.named.ensures
    (λ e. first_conflict c.args.clauses.now c.args.counts.now (map literal_of c.args.decisions.now) (length c.args.known.now) c.args.known.now c.requires.nothing
    (c.start.ensures.contradiction (c.in-Err.is ∙ ap (λ (s : Stop). Err s) e)))

pub loop-decision-init : goal.loop-decision-init
loop-decision-init c =
    first_table c.args.clauses.now c.args.counts.now (length c.args.known.now) c.args.known.now c.start.new.known c.requires.nothing c.in_default.ensures.grows c.in_default.ensures.closed

pub returns-in-Err-decide-clause-fault : goal.returns-in-Err-decide-clause-fault
unfolding no_decision
returns-in-Err-decide-clause-fault c =
    let decision = slice_index_or c.args.decisions.now c.loop-decision.decision-index no_decision in
    close_fault c.args.clauses.now c.args.counts.now (map literal_of c.args.decisions.now) c.in-Err-decide.stop c.named-in-Err-decide.result decision.feature c.named-in-Err-decide.ensures
    (λ e. next_conflict c.args.clauses.now c.args.counts.now (map literal_of c.args.decisions.now) (length c.args.known.now) c.loop-decision.decision-index (literal_of decision) c.loop-decision.known
    (choice_at c.args.decisions.now c.loop-decision.decision-index c.loop-decision-test.true) c.loop-decision.invariant
    (c.decide.ensures.contradiction (c.in-Err-decide.is ∙ ap (λ (s : Stop). Err s) e)))

pub loop-decision-preserved : goal.loop-decision-preserved
unfolding no_decision
loop-decision-preserved c =
    next_table c.args.clauses.now c.args.counts.now (map literal_of c.args.decisions.now) (length c.args.known.now) c.loop-decision.decision-index
    (literal_of (slice_index_or c.args.decisions.now c.loop-decision.decision-index no_decision)) c.loop-decision.known c.decide.new.known
    (choice_at c.args.decisions.now c.loop-decision.decision-index c.loop-decision-test.true)
    c.loop-decision.invariant c.in_default-decide.ensures.grows c.in_default-decide.ensures.closed

pub returns-clause-table : goal.returns-clause-table
returns-clause-table c =
    subst (λ (ds : List Literal). IsClosedTable c.args.clauses.now c.args.counts.now ds (length c.args.known.now) c.loop-decision.known)
    (take_all c.loop-decision.decision-index (map literal_of c.args.decisions.now) (omega (arith, length-map c.args.decisions.now literal_of, c.loop-decision-test.false))) c.loop-decision.invariant

pub decide-requires-clause-decision : goal.decide-requires-clause-decision
decide-requires-clause-decision c = grind (arith, common_steps)

pub decide-requires-clause-counts : goal.decide-requires-clause-counts
decide-requires-clause-counts c = grind (arith, common_steps)

pub decide-requires-clause-clauses : goal.decide-requires-clause-clauses
decide-requires-clause-clauses c = grind (arith, common_steps)

pub decide-requires-clause-closed : goal.decide-requires-clause-closed
decide-requires-clause-closed c = grind (arith, common_steps)

pub offset_bounds-decisions-decision-index : goal.offset_bounds-decisions-decision-index
offset_bounds-decisions-decision-index c = grind (arith, common_steps)
