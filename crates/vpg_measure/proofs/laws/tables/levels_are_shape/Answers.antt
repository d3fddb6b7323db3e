use Rattle.vpg_measure.proofs.LevelsShape.{levels_shape}
use Rattle.vpg_measure.proofs.laws.tables.levels_are_shape.Goals as goal

pub returns : goal.returns
returns c = levels_shape
