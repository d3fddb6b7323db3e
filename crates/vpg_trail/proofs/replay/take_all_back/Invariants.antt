use Rattle.std.proofs.Common.{◌≡◌, ◌++◌, List, length, map, take}
use Rattle.vpg_trail.specs.Page.{Hopeful, Dual, table_of, Entry as Step}
use Rattle.vpg_trail.specs.Shown.{entry_of}
use Rattle.vpg_trail.specs.WellFormed.{LiftsStandAfter}
use Rattle.vpg_trail.proofs.replay.take_all_back.Given as goal

abbrev pub invariant-loop-place : goal.invariant-loop-place
invariant-loop-place l = record {
  hopeful_len : length l.hopeful ≡ l.vertices;
  dual_len : length l.dual ≡ l.vertices;
  hopeful : (page : List Step) → LiftsStandAfter page (map entry_of l.entries) → l.initial.hopeful ≡ table_of Hopeful (page ++ map entry_of l.entries) l.vertices →
      l.hopeful ≡ table_of Hopeful (page ++ map entry_of (take l.place l.entries)) l.vertices;
  dual : (page : List Step) → LiftsStandAfter page (map entry_of l.entries) → l.initial.dual ≡ table_of Dual (page ++ map entry_of l.entries) l.vertices →
      l.dual ≡ table_of Dual (page ++ map entry_of (take l.place l.entries)) l.vertices;
}
