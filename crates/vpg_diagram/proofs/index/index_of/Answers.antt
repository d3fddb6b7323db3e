use Rattle.std.proofs.Common.{[], length, refl, ap, ◌∙◌, arith}
use Rattle.std.proofs.lemmas.Grind.{common_steps}
use Rattle.std.proofs.lemmas.List.{length-replicate}
use Rattle.std.proofs.lemmas.Option.{slice_get_read}
use Rattle.vpg_diagram.proofs.IndexLemmas.{indexed_clause, indexed_count, indexed_all}
use Rattle.vpg_diagram.proofs.index.index_of.Goals as goal

pub loop-number-init : goal.loop-number-init
loop-number-init c = record { rows = ap length c.in_ok-index.ensures ∙ length-replicate c.args.features []; noted = λ number rule f l. absurd (omega arith) }

pub loop-number-preserved : goal.loop-number-preserved
loop-number-preserved c =
    let clauses = c.args.clauses.now in
    record {
      rows = omega (arith, c.in_ok-note_clause.ensures.same_length, c.loop-number.invariant.rows);
      noted = indexed_clause clauses c.args.counts.now c.loop-number.index c.note_clause.new.index c.loop-number.number c.index-clauses-number.result c.loop-number.invariant.noted
          (slice_get_read clauses (length clauses) c.loop-number.number c.index-clauses-number.result refl c.loop-number-test.true c.index-clauses-number.is) c.in_ok-note_clause.ensures;
    }

pub loop-place-init : goal.loop-place-init
loop-place-init c =
    record {
      rows = c.loop-number.invariant.rows;
      noted = λ number rule f l. c.loop-number.invariant.noted number rule f (omega (arith, l, c.loop-number-test.false));
    }

pub loop-place-preserved : goal.loop-place-preserved
loop-place-preserved c =
    let counts = c.args.counts.now in
    record {
      rows = omega (arith, c.in_ok-note_count.ensures.same_length, c.loop-place.invariant.rows);
      noted = indexed_count c.args.clauses.now counts c.loop-place.index c.note_count.new.index c.loop-place.place c.index-counts-place.result c.loop-place.invariant.noted
          (slice_get_read counts (length counts) c.loop-place.place c.index-counts-place.result refl c.loop-place-test.true c.index-counts-place.is) c.in_ok-note_count.ensures;
    }

pub returns : goal.returns
returns c = indexed_all c.args.clauses.now c.args.counts.now c.loop-place.index c.loop-place.place c.loop-place-test.false c.loop-place.invariant.noted

pub note_count-requires : goal.note_count-requires
note_count-requires c = grind (arith, common_steps)

pub note_clause-requires : goal.note_clause-requires
note_clause-requires c = grind (arith, common_steps)

pub overflow_add-clauses : goal.overflow_add-clauses
overflow_add-clauses c = grind (arith, common_steps)

pub bounds-counts-place : goal.bounds-counts-place
bounds-counts-place c = grind (arith, common_steps)

pub offset_bounds-counts-place : goal.offset_bounds-counts-place
offset_bounds-counts-place c = grind (arith, common_steps)
