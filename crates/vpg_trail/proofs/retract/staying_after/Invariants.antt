use Rattle.std.proofs.Common.{◌≡◌, ◌+◌, ◌++◌, All, map, filter, take, drop}
use Rattle.vpg_trail.specs.Page.{Hopeful, Dual, table_of, reset_all}
use Rattle.vpg_trail.specs.Shown.{entry_of, VertexBelow, keeps}
use Rattle.vpg_trail.proofs.retract.staying_after.Given as goal

abbrev pub invariant-loop-entry : goal.invariant-loop-entry
invariant-loop-entry l = record {
  items : l.entry-items ≡ drop (l.place + 1) l.entries;
  hopeful : l.hopeful ≡ table_of Hopeful (map entry_of (take l.place l.entries) ++ map entry_of l.kept.items) l.vertices;
  dual : l.dual ≡ table_of Dual (map entry_of (take l.place l.entries) ++ map entry_of l.kept.items) l.vertices;
  kept : map entry_of l.kept.items ≡ reset_all (map entry_of (take l.place l.entries)) (filter (keeps l.feature) (map entry_of (take l.entry-index l.entry-items)));
  vertices : All (λ e. VertexBelow l.vertices (entry_of e)) l.kept.items;
}
