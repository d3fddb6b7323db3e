use Rattle.std.proofs.Common.{ℕ, ◌<◌, All, length, slice_index}
use Rattle.vpg_hope.specs.Arena.{vertex_at}
use Rattle.vpg_measure.specs.Bounds.{IsSupported}
use Rattle.vpg_measure.proofs.bounds.are_supported.Given as goal

abbrev pub invariant-loop-v : goal.invariant-loop-v
invariant-loop-v l = record {
  supported : (u : ℕ) → u < l.v → slice_index l.table u < slice_index l.certificate.bounds u →
      IsSupported l.shape l.dual_shape l.certificate.bounds l.certificate.ranks (vertex_at l.arena u) (slice_index l.certificate.bounds u) (slice_index l.certificate.ranks u);
  closed : (u : ℕ) → u < l.v → slice_index l.table u < slice_index l.certificate.bounds u → All (λ w. w < length l.arena) (vertex_at l.arena u).successors;
}
