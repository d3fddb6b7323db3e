use Rattle.vpg_hope.proofs.Pages.{full_pages_have_the_products_game}
use Rattle.vpg_hope.proofs.laws.full_pages_have_the_products_game.Goals as goal

pub returns : goal.returns
returns c = full_pages_have_the_products_game
