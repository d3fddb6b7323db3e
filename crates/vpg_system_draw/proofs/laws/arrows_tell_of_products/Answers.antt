use Rattle.vpg_system_draw.proofs.Said.{arrows_tell}
use Rattle.vpg_system_draw.proofs.laws.arrows_tell_of_products.Goals as goal

pub returns : goal.returns
returns c = arrows_tell
