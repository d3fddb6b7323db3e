use Rattle.vpg_tree.proofs.LawProofs as laws
use Rattle.vpg_tree.proofs.laws.configurations_meet_the_lines.Goals as goal

pub returns : goal.returns
returns c = laws.configurations_meet_the_lines
