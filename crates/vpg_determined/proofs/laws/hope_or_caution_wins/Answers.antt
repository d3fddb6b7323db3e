use Rattle.vpg_determined.proofs.Products.{hope_or_caution}
use Rattle.vpg_determined.proofs.laws.hope_or_caution_wins.Goals as goal

pub returns : goal.returns
returns g c = λ value mover game v closed inside. hope_or_caution _ value game closed v inside mover
