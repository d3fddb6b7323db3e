use Rattle.vpg_determined.proofs.Winners.{wins_each_play}
use Rattle.vpg_determined.proofs.laws.winners_win_each_play.Goals as goal

pub returns : goal.returns
returns c = wins_each_play
