use Rattle.std.proofs.Common.{subst}
use Rattle.vpg_desk.specs.Book.{IsSettledPage}
use Rattle.vpg_desk.specs.Desk.{family_of}
use Rattle.vpg_desk.specs.State.{DeskState, setting_of}
use Rattle.vpg_desk.proofs.Noting.{says_settled}
use Rattle.vpg_desk.proofs.desk.Desk.note.Goals as goal

pub returns-then-self-clause-reply : goal.returns-then-self-clause-reply
returns-then-self-clause-reply c =
    says_settled c.args.self.now (subst (λ (s : DeskState). IsSettledPage (family_of (setting_of s)) s.book.present) c.self.view_is (c.self.invariant.noted.present c.if-self.true))
