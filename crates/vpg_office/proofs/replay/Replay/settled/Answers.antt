use Rattle.std.proofs.Common.{false, subst}
use Rattle.vpg_desk.specs.Book.{Settled, IsSettled}
use Rattle.vpg_desk.specs.State.{DeskState, Replies}
use Rattle.vpg_office.proofs.replay.Replay.settled.Goals as goal

pub returns-then-rises-clause-reply : goal.returns-then-rises-clause-reply
returns-then-rises-clause-reply c = subst (λ (s : DeskState). Replies s Settled (IsSettled false)) c.self.view_is (c.rises.ensures c.if-rises.true)
