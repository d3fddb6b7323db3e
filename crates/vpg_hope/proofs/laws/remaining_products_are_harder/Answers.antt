use Rattle.vpg_hope.proofs.Pages.{remaining_products_are_harder, duals_of_remaining_products_are_harder}
use Rattle.vpg_hope.proofs.laws.remaining_products_are_harder.Goals as goal

pub returns-clause-game : goal.returns-clause-game
returns-clause-game c = remaining_products_are_harder

pub returns-clause-dual : goal.returns-clause-dual
returns-clause-dual c = duals_of_remaining_products_are_harder
