use Rattle.vpg_system_draw.proofs.AllRows.{all_inside, begun_inside, reached_by_any}
use Rattle.vpg_system_draw.proofs.reached.reachable_by_any.Goals as goal

pub search-requires-clause-inside : goal.search-requires-clause-inside
search-requires-clause-inside c = rw (c.deref.ensures.value, c.in_ok-rows.ensures) (all_inside c.args.system.now c.transitions-transitions.ensures.system)

pub search-requires-clause-first : goal.search-requires-clause-first
search-requires-clause-first c = rw (c.deref.ensures.value, c.in_ok-rows.ensures, c.first.ensures) (begun_inside c.args.system.now c.transitions-transitions.ensures.system)

pub returns : goal.returns
returns c =
    reached_by_any c.args.system.now c.transitions-transitions.ensures.system c.search.new.marks.items
    (rw (← c.in_ok-rows.ensures, ← c.deref.ensures.value, ← c.first.ensures) c.in_ok-search.ensures)
