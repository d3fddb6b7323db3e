use Rattle.vpg_measure.proofs.Plays.{play_won}
use Rattle.vpg_measure.proofs.laws.measures.every_play_is_won.Goals as goal

pub returns : goal.returns
returns c = λ game player strategy play p is_play. play_won game player strategy play is_play p
