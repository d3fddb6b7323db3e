use Rattle.vpg_measure.proofs.Shapes.{has_shape}
use Rattle.vpg_measure.proofs.laws.measures.shape_exists.Goals as goal

pub returns : goal.returns
returns c = has_shape
