use Rattle.std.proofs.Common.{◌≡◌, take}
use Rattle.std.specs.Prelude.{filter}
use Rattle.vpg_trace.specs.Walks.{allows}
use Rattle.vpg_trace.proofs.walking.moves_from.Given as goal

-- those of the successors so far
abbrev pub invariant-loop-w : goal.invariant-loop-w
invariant-loop-w l = l.found.items ≡ filter (allows l.owner l.choice) (take l.w-index l.kept)
