use Rattle.std.proofs.Common.{◌↔◌, List, Contains, IsTrue, subst}
use Rattle.vpg_game.specs.Game.{NamedVertex, NamedGame, IsAtLimit, priorities_of}
use Rattle.vpg_game.proofs.game.GuardedGame.is_at_limit.Goals as goal

pub returns : goal.returns
returns c =
    subst (λ (g : NamedGame). IsTrue c.has_highest.result ↔ IsAtLimit g) c.self.view_is
    (subst (λ (vs : List NamedVertex). IsTrue c.has_highest.result ↔ Contains (priorities_of vs) 65536) c.deref.ensures.value c.has_highest.ensures)
