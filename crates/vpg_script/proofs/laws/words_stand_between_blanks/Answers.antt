use Rattle.vpg_script.proofs.Unquoted.{words_as_before}
use Rattle.vpg_script.proofs.laws.words_stand_between_blanks.Goals as goal

pub returns : goal.returns
returns c = words_as_before
