use Rattle.vpg_model.proofs.Decides.{game_of_parts_is_model}
use Rattle.vpg_model.proofs.laws.game_of_parts_is_model.Goals as goal

pub returns : goal.returns
returns c = game_of_parts_is_model
