use Rattle.vpg_measure.proofs.Supported.{supported_bounds_hold}
use Rattle.vpg_measure.proofs.laws.bounds.supported_bounds_hold.Goals as goal

pub returns : goal.returns
returns c = supported_bounds_hold
