use Rattle.std.proofs.Common.{◌+◌, length}
use Rattle.vpg_system_draw.specs.Searched.{unmarked, IsSearching}
use Rattle.vpg_system_draw.proofs.reached.search.Given as goal

abbrev pub invariant-loop-s : goal.invariant-loop-s
invariant-loop-s l = IsSearching l.rows l.first l.marks.items l.waiting.items

-- what is marked waits, and what waits leaves
abbrev pub decreases-loop-s : goal.decreases-loop-s
decreases-loop-s l = unmarked l.marks.items + length l.waiting.items
