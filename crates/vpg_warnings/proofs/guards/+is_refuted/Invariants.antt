use Rattle.std.proofs.Common.{length}
use Rattle.vpg_warnings.proofs.guards.+is_refuted.Given as goal

abbrev pub decreases-is_refuted : goal.decreases-is_refuted
decreases-is_refuted l = length l.features.now
