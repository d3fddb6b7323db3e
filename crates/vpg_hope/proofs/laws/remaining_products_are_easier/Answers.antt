use Rattle.vpg_hope.proofs.Pages.{remaining_products_are_easier}
use Rattle.vpg_hope.proofs.laws.remaining_products_are_easier.Goals as goal

pub returns : goal.returns
returns c = remaining_products_are_easier
