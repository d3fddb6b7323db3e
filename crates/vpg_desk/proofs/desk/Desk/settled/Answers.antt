use Rattle.std.proofs.Common.{subst}
use Rattle.vpg_desk.specs.Book.{IsSettledPage}
use Rattle.vpg_desk.specs.Desk.{family_of}
use Rattle.vpg_desk.specs.Headline.{Tells}
use Rattle.vpg_desk.specs.State.{DeskState, setting_of}
use Rattle.vpg_desk.proofs.Answering.{settled_page, tells}
use Rattle.vpg_desk.proofs.desk.Desk.settled.Goals as goal

pub returns-then-self-clause-reply : goal.returns-then-self-clause-reply
returns-then-self-clause-reply c =
    settled_page c.args.self.now c.self.inside.is_noted
    ((λ _. subst (λ (s : DeskState). IsSettledPage (family_of (setting_of s)) s.book.present) c.self.view_is (c.self.invariant.noted.present c.if-self.true)), (λ _. c.if-self.true))

pub returns-then-self-clause-least : goal.returns-then-self-clause-least
returns-then-self-clause-least c t =
    (subst (λ (s : DeskState). Tells (setting_of s) s.book.present) c.self.view_is (tells c.self.inside c.self.invariant)).settled
    (subst (λ (s : DeskState). IsSettledPage (family_of (setting_of s)) s.book.present) c.self.view_is (c.self.invariant.noted.present c.if-self.true))

pub returns-else-self-clause-reply : goal.returns-else-self-clause-reply
returns-else-self-clause-reply c = settled_page c.args.self.now c.looks_settled.result c.looks_settled.ensures

pub returns-else-self-clause-least : goal.returns-else-self-clause-least
returns-else-self-clause-least c t =
    (subst (λ (s : DeskState). Tells (setting_of s) s.book.present) c.self.view_is (tells c.self.inside c.self.invariant)).settled (c.looks_settled.ensures.0 t)
