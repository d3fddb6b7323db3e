use Rattle.vpg_winners.proofs.One.{winners_one}
use Rattle.vpg_winners.proofs.laws.winners_are_one.Goals as goal

pub returns : goal.returns
returns c = λ game lines vertex choices one other a b settled also. winners_one game lines vertex a settled other b also
