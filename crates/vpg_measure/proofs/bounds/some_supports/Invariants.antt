use Rattle.std.proofs.Common.{ℕ, ◌<◌, get_or, slice_index}
use Rattle.vpg_measure.specs.Bounds.{Supports}
use Rattle.vpg_measure.proofs.bounds.some_supports.Given as goal

abbrev pub invariant-loop-w : goal.invariant-loop-w
invariant-loop-w l = (k d : ℕ) → k < l.w-index →
    Supports l.shape l.dual_shape l.certificate.bounds l.certificate.ranks l.priority (slice_index l.certificate.bounds l.v) (slice_index l.certificate.ranks l.v) (get_or l.kept k d) → ⊥
