use Rattle.vpg_system_draw.proofs.Rows.{rows_inside, first_inside, reached_by}
use Rattle.vpg_system_draw.proofs.reached.reachable.Goals as goal

pub search-requires-clause-inside : goal.search-requires-clause-inside
search-requires-clause-inside c = rw (c.deref.ensures.value, c.in_ok-rows.ensures, c.values.ensures) (rows_inside c.args.known.now c.args.system.now c.transitions-transitions.ensures.system)

pub search-requires-clause-first : goal.search-requires-clause-first
search-requires-clause-first c = rw (c.deref.ensures.value, c.in_ok-rows.ensures, c.values.ensures, c.first.ensures) (first_inside c.args.known.now c.args.system.now c.transitions-transitions.ensures.system)

pub returns : goal.returns
returns c =
    reached_by c.args.known.now c.args.system.now c.transitions-transitions.ensures.system c.search.new.marks.items
    (rw (← c.values.ensures, ← c.in_ok-rows.ensures, ← c.deref.ensures.value, ← c.first.ensures) c.in_ok-search.ensures)
