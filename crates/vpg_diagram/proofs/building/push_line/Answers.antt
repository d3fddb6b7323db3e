use Rattle.std.proofs.Common.{arith}
use Rattle.std.proofs.lemmas.Grind.{common_steps}
use Rattle.vpg_diagram.proofs.building.push_line.Goals as goal

pub returns-in_ok-push-in-Mandatory-2 : goal.returns-in_ok-push-in-Mandatory-2
returns-in_ok-push-in-Mandatory-2 c = grind (arith, common_steps)

pub returns-in_ok-push_parents-in-Or : goal.returns-in_ok-push_parents-in-Or
returns-in_ok-push_parents-in-Or c = grind (arith, common_steps)

pub returns-in_ok-push_alternative-in-Alternative : goal.returns-in_ok-push_alternative-in-Alternative
returns-in_ok-push_alternative-in-Alternative c = grind (arith, common_steps)

pub returns-in_ok-push-in-Excludes : goal.returns-in_ok-push-in-Excludes
returns-in_ok-push-in-Excludes c = grind (arith, common_steps)

pub returns-in_ok-push-in-Requires : goal.returns-in_ok-push-in-Requires
returns-in_ok-push-in-Requires c = grind (arith, common_steps)

pub returns-in_ok-push-in-Optional : goal.returns-in_ok-push-in-Optional
returns-in_ok-push-in-Optional c = grind (arith, common_steps)
