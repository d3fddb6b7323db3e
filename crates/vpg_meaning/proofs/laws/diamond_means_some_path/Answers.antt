use Rattle.vpg_meaning.proofs.Modalities.{diamond_means_some_path}
use Rattle.vpg_meaning.proofs.laws.diamond_means_some_path.Goals as goal

pub returns : goal.returns
returns c = diamond_means_some_path
