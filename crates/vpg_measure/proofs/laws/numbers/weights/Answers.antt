use Rattle.vpg_measure.proofs.Products.{weights_are_products}
use Rattle.vpg_measure.proofs.laws.numbers.weights.Goals as goal

pub returns : goal.returns
returns c = weights_are_products
