use Rattle.vpg_determined.proofs.Products.{not_hopeless_and_sure}
use Rattle.vpg_determined.proofs.laws.not_hopeless_and_sure.Goals as goal

pub returns : goal.returns
returns g c =
    λ value game hopeful dual closed below dual_below v inside.
    not_hopeless_and_sure _ value game closed v inside hopeful dual below dual_below
