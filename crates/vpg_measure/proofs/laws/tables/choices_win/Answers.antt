use Rattle.vpg_measure.proofs.NumberVerdicts.{choices_win}
use Rattle.vpg_measure.proofs.laws.tables.choices_win.Goals as goal

pub returns : goal.returns
returns c = λ levels arena table choices closed is_table settled are_choices. choices_win levels arena table choices is_table settled are_choices closed
