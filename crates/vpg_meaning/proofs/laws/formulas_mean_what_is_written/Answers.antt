use Rattle.vpg_meaning.proofs.Meaning.{formulas_mean_what_is_written}
use Rattle.vpg_meaning.proofs.laws.formulas_mean_what_is_written.Goals as goal

pub returns : goal.returns
returns c = formulas_mean_what_is_written
