use Rattle.std.proofs.Common.{ℕ, ◌≡◌, ◌<◌, length, Some}
use Rattle.std.specs.Prelude.{slice_index, slice_get, All}
use Rattle.vpg_hope.specs.Arena.{vertex_at}
use Rattle.vpg_measure.specs.Lifts.{choice_of}
use Rattle.vpg_measure.proofs.lifts.strategy.Given as goal

abbrev pub invariant-loop-v : goal.invariant-loop-v
invariant-loop-v l = record {
  len : length l.choices.items ≡ l.v;
  each : (v : ℕ) → v < l.v → slice_get l.choices.items v ≡ Some (choice_of l.shape l.table (vertex_at l.arena v) (slice_index l.table v));
  closed : (v : ℕ) → v < l.v → All (λ w. w < length l.arena) (vertex_at l.arena v).successors;
}
