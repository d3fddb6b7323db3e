use Rattle.vpg_measure.proofs.Easier.{value_below_harder}
use Rattle.vpg_hope.proofs.Guards.{earlier_easier}
use Rattle.vpg_hope.specs.Hope.{hopeful_game}
use Rattle.vpg_measure.proofs.laws.measures.value_stays_when_more_is_known.Goals as goal

pub returns : goal.returns
returns g c = λ earlier later game shape v m extends. value_below_harder (hopeful_game earlier game) (hopeful_game later game) (earlier_easier _ earlier later game extends) shape v m
