use Rattle.vpg_script.proofs.Whole.{read_is_whole}
use Rattle.vpg_script.proofs.laws.read_lines_are_the_lines.Goals as goal

pub returns : goal.returns
returns c = read_is_whole
