use Rattle.vpg_measure.proofs.MeasureLifts.{fits_iff_lift}
use Rattle.vpg_measure.proofs.laws.measures.fits_from_lift.Goals as goal

pub returns : goal.returns
returns c = fits_iff_lift
