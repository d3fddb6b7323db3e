use Rattle.std.proofs.Common.{◌≡◌, ◌++◌, List, length, map, take}
use Rattle.vpg_trail.specs.Page.{Hopeful, Dual, table_of, Entry as Step}
use Rattle.vpg_trail.specs.Shown.{entry_of}
use Rattle.vpg_trail.proofs.replay.take_all.Given as goal

abbrev pub invariant-loop-entry : goal.invariant-loop-entry
invariant-loop-entry l = record {
  hopeful_len : length l.hopeful ≡ l.vertices;
  dual_len : length l.dual ≡ l.vertices;
  hopeful : (page : List Step) → l.initial.hopeful ≡ table_of Hopeful page l.vertices → l.hopeful ≡ table_of Hopeful (page ++ map entry_of (take l.entry-index l.entries)) l.vertices;
  dual : (page : List Step) → l.initial.dual ≡ table_of Dual page l.vertices → l.dual ≡ table_of Dual (page ++ map entry_of (take l.entry-index l.entries)) l.vertices;
}
