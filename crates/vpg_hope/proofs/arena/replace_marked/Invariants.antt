use Rattle.std.proofs.Common.{◌≡◌}
use Rattle.std.specs.Arc.{arc_slice_items}
use Rattle.vpg_hope.specs.Arena.{row_vertices}
use Rattle.vpg_hope.proofs.Drafts.{IsDraft}
use Rattle.vpg_hope.proofs.arena.replace_marked.Given as goal

-- the vertices so far are as selected, in both
abbrev pub invariant-loop-v : goal.invariant-loop-v
invariant-loop-v l = let one = l.initial.one in let two = l.initial.two in record {
  shared : arc_slice_items l.one.shared ≡ arc_slice_items one.shared;
  one : IsDraft l.first l.game (row_vertices one.rows.items (arc_slice_items one.shared) one.own.items) (arc_slice_items one.shared) l.v l.one.rows.items l.one.own.items;
  second_shared : arc_slice_items l.two.shared ≡ arc_slice_items two.shared;
  two : IsDraft l.second l.game (row_vertices two.rows.items (arc_slice_items two.shared) two.own.items) (arc_slice_items two.shared) l.v l.two.rows.items l.two.own.items;
}
