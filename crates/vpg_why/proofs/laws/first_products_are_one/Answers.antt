use Rattle.vpg_why.proofs.FirstOnes.{first_products_are_one}
use Rattle.vpg_why.proofs.laws.first_products_are_one.Goals as goal

pub returns : goal.returns
returns c = first_products_are_one
