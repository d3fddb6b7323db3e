use Rattle.std.proofs.Common.{◌≡◌, ℕ, ◌<◌, ◌≤◌, max, length, slice_index}
use Rattle.vpg_measure.proofs.bounds.raise_all.Given as goal

abbrev pub invariant-loop-v : goal.invariant-loop-v
invariant-loop-v l = record {
  len : length l.table ≡ length l.arena;
  done : (u : ℕ) → u < l.v → slice_index l.table u ≡ max (slice_index l.fn.table u) (slice_index l.bounds u);
  rest : (u : ℕ) → l.v ≤ u → slice_index l.table u ≡ slice_index l.fn.table u;
}
