use Rattle.std.proofs.Common.{sym, subst}
use Rattle.vpg_trail.specs.Page.{Hopeful}
use Rattle.vpg_desk.specs.Book.{IsSettledPage}
use Rattle.vpg_desk.specs.Desk.{family_of}
use Rattle.vpg_desk.specs.State.{DeskState, setting_of}
use Rattle.vpg_desk.proofs.Noting.{by_both, says_settled, says_not, noted_desk, none_of, not_none}
use Rattle.vpg_desk.proofs.desk.Desk.look.Goals as goal

pub returns-in-Some-clause-reply : goal.returns-in-Some-clause-reply
returns-in-Some-clause-reply c = says_not c.args.self.now Hopeful (λ t. not_none c.raised.result c.in-Some.v c.in-Some.is (c.raised.ensures.1 t))

pub invariant_of-self : goal.invariant_of-self
invariant_of-self c =
    noted_desk c.self.inside c.self.invariant
    (subst (λ (s : DeskState). IsSettledPage (family_of (setting_of s)) s.book.present) (sym c.self.view_is)
    (by_both c.args.self.now (c.raised.ensures.0 (none_of c.raised.result c.in_default.not-Some)) (c.raised-2.ensures.0 (none_of c.raised-2.result c.in_default-raised.not-Some))))

pub returns-clause-reply : goal.returns-clause-reply
returns-clause-reply c =
    says_settled c.args.self.now
    (by_both c.args.self.now (c.raised.ensures.0 (none_of c.raised.result c.in_default.not-Some)) (c.raised-2.ensures.0 (none_of c.raised-2.result c.in_default-raised.not-Some)))
