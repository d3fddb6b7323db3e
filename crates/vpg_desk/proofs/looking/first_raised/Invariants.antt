use Rattle.std.proofs.Common.{ℕ, ◌<◌, ◌≤◌}
use Rattle.std.specs.Prelude.{slice_index}
use Rattle.vpg_hope.specs.Arena.{vertex_at}
use Rattle.vpg_measure.specs.Lifts.{lift_of}
use Rattle.vpg_desk.proofs.looking.first_raised.Given as goal

abbrev pub invariant-loop-v : goal.invariant-loop-v
invariant-loop-v l = (u : ℕ) → u < l.v → lift_of l.shape l.table (vertex_at l.arena u) ≤ slice_index l.table u
