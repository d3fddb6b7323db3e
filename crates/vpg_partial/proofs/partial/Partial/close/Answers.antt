use Rattle.std.proofs.lemmas.Grind.{common_steps}
use Rattle.std.proofs.Common.{◌≡◌, length, map, arith}
use Rattle.std.proofs.lemmas.List.{with_items_is}
use Rattle.std.proofs.lemmas.Result.{err_from_is_err_and}
use Rattle.vpg_partial.specs.Known.{literal_of}
use Rattle.vpg_partial.specs.CloseFaults.{IsCloseFault, LeavesNoProduct}
use Rattle.vpg_partial.proofs.Fronts.{decisions_below, table_of_lines, fault_of_lines, if_err_from, leaves_no_product}
use Rattle.vpg_partial.proofs.Tables.{remaining_products_complete}
use Rattle.vpg_partial.proofs.partial.Partial.close.Goals as goal

pub decide_all-requires-clause-decisions : goal.decide_all-requires-clause-decisions
decide_all-requires-clause-decisions c =
    decisions_below c.args.diagram.now.lines c.args.decisions.now (length c.deref_mut.result.now) (omega (arith, c.deref_mut.ensures.len, c.in_ok-values.ensures.len, c.features-features.ensures.count)) c.requires

pub decide_all-requires-clause-index : goal.decide_all-requires-clause-index
decide_all-requires-clause-index c = rw (c.clauses-clauses.ensures.clauses, c.counts-counts.ensures.counts) c.index-index.ensures

pub returns-in_err-decide_all-clause-conflict : goal.returns-in_err-decide_all-clause-conflict
returns-in_err-decide_all-clause-conflict c =
    let lines = c.args.diagram.now.lines in
    let choices = map literal_of c.args.decisions.now in
    let p = err_from_is_err_and c.from_residual-in_err-decide_all.result c.from_residual-in_err-decide_all.ensures.1 in
    if_err_from c.from_residual-in_err-decide_all.result (IsCloseFault lines choices) c.in_err-decide_all.field-0.0 p.0 p.1 p.2
    (fault_of_lines lines choices c.clauses-clauses.result.now c.counts-counts.result.now c.in_err-decide_all.field-0.0 c.clauses-clauses.ensures.clauses c.counts-counts.ensures.counts c.in_err-decide_all.ensures.fault)

pub returns-in_err-decide_all-clause-no_product : goal.returns-in_err-decide_all-clause-no_product
returns-in_err-decide_all-clause-no_product c =
    let lines = c.args.diagram.now.lines in
    let choices = map literal_of c.args.decisions.now in
    let p = err_from_is_err_and c.from_residual-in_err-decide_all.result c.from_residual-in_err-decide_all.ensures.1 in
    if_err_from c.from_residual-in_err-decide_all.result (LeavesNoProduct lines choices) c.in_err-decide_all.field-0.0 p.0 p.1 p.2
    (leaves_no_product lines choices c.in_err-decide_all.field-0.0 c.features-features.ensures.diagram.diagram
    (fault_of_lines lines choices c.clauses-clauses.result.now c.counts-counts.result.now c.in_err-decide_all.field-0.0 c.clauses-clauses.ensures.clauses c.counts-counts.ensures.counts c.in_err-decide_all.ensures.fault))

pub returns-clause-known : goal.returns-clause-known
returns-clause-known c =
    let lines = c.args.diagram.now.lines in
    let choices = map literal_of c.args.decisions.now in
    let l : length c.decide_all.new.known ≡ c.in_ok-values.values.len = omega (arith, c.decide_all.auto.known, c.deref_mut.ensures.len) in
    table_of_lines lines choices c.clauses-clauses.result.now c.counts-counts.result.now (length c.deref_mut.result.now) c.decide_all.new.known _
    c.clauses-clauses.ensures.clauses c.counts-counts.ensures.counts (omega (arith, c.deref_mut.ensures.len, c.in_ok-values.ensures.len, c.features-features.ensures.count)) (with_items_is c.in_ok-values.values c.decide_all.new.known l) c.in_ok-decide_all.ensures.table

pub returns-clause-agrees : goal.returns-clause-agrees
returns-clause-agrees c =
    λ features remaining. remaining_products_complete c.args.diagram.now.lines (map literal_of c.args.decisions.now) _ features c.features-features.ensures.diagram.diagram (returns-clause-known c) remaining

pub decide_all-requires-clause-clauses : goal.decide_all-requires-clause-clauses
decide_all-requires-clause-clauses c = grind (arith, common_steps)

pub decide_all-requires-clause-counts : goal.decide_all-requires-clause-counts
decide_all-requires-clause-counts c = grind (arith, common_steps)

pub decide_all-requires-clause-nothing : goal.decide_all-requires-clause-nothing
decide_all-requires-clause-nothing c = grind (arith, common_steps)
