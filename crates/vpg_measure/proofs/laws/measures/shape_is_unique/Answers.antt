use Rattle.vpg_measure.proofs.Shapes.{same_shape}
use Rattle.vpg_measure.proofs.laws.measures.shape_is_unique.Goals as goal

pub returns : goal.returns
returns c = same_shape
