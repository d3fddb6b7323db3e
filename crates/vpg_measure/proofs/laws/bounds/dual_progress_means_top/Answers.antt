use Rattle.vpg_measure.proofs.Refuted.{dual_progress_means_top}
use Rattle.vpg_measure.proofs.laws.bounds.dual_progress_means_top.Goals as goal

pub returns : goal.returns
returns c = dual_progress_means_top
