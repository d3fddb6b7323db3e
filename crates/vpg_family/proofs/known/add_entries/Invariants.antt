use Rattle.std.proofs.Common.{◌≡◌, ◌++◌}
use Rattle.vpg_game.specs.Game.{vertex_ids}
use Rattle.vpg_formula.specs.EntryCode.{earlier_of}
use Rattle.vpg_family.specs.Called.{entry_callings}
use Rattle.vpg_family.proofs.known.add_entries.Given as goal

abbrev pub invariant-loop-n : goal.invariant-loop-n
invariant-loop-n l = l.callings ≡ l.fn.callings ++ entry_callings (vertex_ids l.game.vertices) (earlier_of l.entries) l.vertices l.n
