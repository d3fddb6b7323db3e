use Rattle.vpg_measure.proofs.Below.{below_is_by_value, zeros_are_below, lift_is_below, raise_is_below}
use Rattle.vpg_measure.proofs.laws.tables.below.Goals as goal

pub returns : goal.returns
returns c = record {
  by_value = below_is_by_value;
  zeros = zeros_are_below;
  lift = lift_is_below;
  raise = raise_is_below;
}
