use Rattle.std.proofs.Common.{◌≤◌, sym, subst}
use Rattle.vpg_system.proofs.Systems.{few_actions}
use Rattle.vpg_system.proofs.system.System.actions.Goals as goal

pub returns-clause-few : goal.returns-clause-few
returns-clause-few c = subst (λ n. n ≤ 1048576) (sym c.len.ensures) (few_actions _ c.self.invariant)
