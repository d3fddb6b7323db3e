use Rattle.std.proofs.Common.{◌≡◌, Option, Some, None, true, false, refl, subst}
use Rattle.std.specs.Prelude.{MatchOption}
use Rattle.vpg_desk.specs.Book.{Settled, IsSettled}
use Rattle.vpg_desk.specs.State.{DeskState, Replies}
use Rattle.vpg_office.proofs.replay.Replay.looks_settled.Goals as goal

when_none : {X : Type 0} (o : Option X) (P : Type 0) (Q : X → Type 0) → ((x : X) → o ≡ Some x → ⊥) → MatchOption o P Q → P
when_none None P Q never p = p
when_none (Some x) P Q never q = absurd (never x refl)

pub returns-in_default-clause-reply : goal.returns-in_default-clause-reply
returns-in_default-clause-reply c =
    subst (λ (s : DeskState). Replies s Settled (IsSettled true)) c.self.view_is
    (when_none c.note.result (Replies c.self.inside.desk Settled (IsSettled true)) (λ _. Replies c.self.inside.desk Settled (IsSettled false)) c.in_default.not-Some c.note.ensures.reply)

pub returns-clause-reply : goal.returns-clause-reply
returns-clause-reply c = subst (λ (s : DeskState). Replies s Settled (IsSettled false)) c.self.view_is c.in-Some.ensures.reply
