use Rattle.std.proofs.Common.{◌≡◌, ◌∙◌, ◌-◌, ap, subst}
use Rattle.vpg_desk.specs.Book.{Forget, Spent}
use Rattle.vpg_desk.specs.Cuts.{cuts_of}
use Rattle.vpg_desk.specs.DeskFields.{desk_of}
use Rattle.vpg_desk.specs.State.{DeskState, IsStep}
use Rattle.vpg_desk.specs.Trail.{cuts_in_front_of}
use Rattle.vpg_desk.proofs.Spent.{forgotten_step, forgotten_desk}
use Rattle.vpg_desk.proofs.desk.Desk.forget.Goals as goal
use Rattle.vpg_desk.proofs.desk.Desk.forget.Goals.{After-drop_up_to}

front : (c : After-drop_up_to) → cuts_of c.drop_up_to.new.cuts.items ≡ cuts_in_front_of c.args.token (cuts_of c.self.inside.future.items)
front c = c.drop_up_to.ensures.front ∙ ap (λ n. cuts_in_front_of n (cuts_of c.self.inside.future.items)) c.spend.ensures

pub invariant_of-self : goal.invariant_of-self
invariant_of-self c = forgotten_desk c.self.inside c.self.invariant c.args.token c.drop_up_to.new.cuts (front (goal.at.invariant_of-self c).After-drop_up_to) c.drop_up_to.ensures.notes (c.drop_up_to.ensures.below c.self.inside.trail.vertices c.self.invariant.future_below)

pub returns : goal.returns
returns c session =
    subst (λ (s : DeskState). IsStep s session (Forget c.args.token) Spent (desk_of (record c.self.inside { future = c.drop_up_to.new.cuts; tokens = c.self.inside.tokens - 1 }))) c.self.view_is
    (forgotten_step c.self.inside c.self.invariant c.args.token c.drop_up_to.new.cuts (front (goal.at.returns c).After-drop_up_to) session)
