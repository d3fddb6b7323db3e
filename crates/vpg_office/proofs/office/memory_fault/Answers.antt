use Rattle.std.proofs.Common.{refl, subst}
use Rattle.std.specs.Bool.{Decides}
use Rattle.vpg_game.specs.Game.{NamedGame, IsAtLimit}
use Rattle.vpg_faults.specs.declared.fault.OpenFault.TheVariants.{AtLimit, Memory}
use Rattle.vpg_office.proofs.Opening.{tells_limit, tells_memory}
use Rattle.vpg_office.proofs.office.memory_fault.Goals as goal

pub returns-then-is_at_limit-clause-at_limit : goal.returns-then-is_at_limit-clause-at_limit
returns-then-is_at_limit-clause-at_limit c =
    tells_limit c.is_at_limit.result AtLimit (subst (λ (game : NamedGame). Decides c.is_at_limit.result (IsAtLimit game)) c.deref.ensures c.is_at_limit.ensures) c.if-is_at_limit.true refl

pub returns-clause-at_limit : goal.returns-clause-at_limit
returns-clause-at_limit c =
    tells_memory c.is_at_limit.result Memory (subst (λ (game : NamedGame). Decides c.is_at_limit.result (IsAtLimit game)) c.deref.ensures c.is_at_limit.ensures) c.if-is_at_limit.false refl
