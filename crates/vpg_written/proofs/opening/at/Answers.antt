use Rattle.std.proofs.Common.{refl}
use Rattle.vpg_written.proofs.Tasks.{tree_at_place}
use Rattle.vpg_written.proofs.opening.at.Goals as goal

pub returns-clause-place : goal.returns-clause-place
returns-clause-place c = λ g t h k. tree_at_place g _ _ _ _ _ t k h refl
