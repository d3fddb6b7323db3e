use Rattle.vpg_meaning.proofs.Modalities.{box_means_every_path}
use Rattle.vpg_meaning.proofs.laws.box_means_every_path.Goals as goal

pub returns : goal.returns
returns c = box_means_every_path
