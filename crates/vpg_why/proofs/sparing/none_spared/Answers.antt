use Rattle.vpg_sides.specs.declared.which.Which.TheVariants.{Hopeful, Dual}
use Rattle.vpg_why.proofs.Together.{none_are}
use Rattle.vpg_why.proofs.sparing.none_spared.Goals as goal

pub returns : goal.returns
returns c = λ game diagram vertex own. record {
  possible = none_are game diagram Hopeful vertex own _ c.new.ensures.items;
  unsure = none_are game diagram Dual vertex own _ c.new-2.ensures.items;
}
