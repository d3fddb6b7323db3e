use Rattle.vpg_part_texts.proofs.Worded.{levels_are}
use Rattle.vpg_part_texts.proofs.wording.most_levels.Goals as goal

pub returns : goal.returns
returns c = levels_are
