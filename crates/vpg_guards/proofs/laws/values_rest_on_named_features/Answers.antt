use Rattle.vpg_guards.proofs.Named.{values_rest_on_named_features as law}
use Rattle.vpg_guards.proofs.laws.values_rest_on_named_features.Goals as goal

pub returns : goal.returns
returns c = law
