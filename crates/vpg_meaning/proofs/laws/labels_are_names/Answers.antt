use Rattle.vpg_meaning.proofs.Labels.{labels_are_names}
use Rattle.vpg_meaning.proofs.laws.labels_are_names.Goals as goal

pub returns : goal.returns
returns c = labels_are_names
