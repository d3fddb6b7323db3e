use Rattle.vpg_desk.proofs.Below.{harvests_raise_lawfully}
use Rattle.vpg_desk.proofs.Family.{family_is_monotone}
use Rattle.vpg_desk.proofs.Lawful.{harvests_are_lawful}
use Rattle.vpg_desk.specs.Desk.{family_of}
use Rattle.vpg_desk.proofs.laws.harvests.Goals as goal

pub returns : goal.returns
returns c = record {
  lawful = harvests_are_lawful;
  raise = λ setting is_setting. harvests_raise_lawfully (family_of setting) (family_is_monotone setting is_setting);
  monotone = family_is_monotone;
}
