use Rattle.std.proofs.Common.{◌∙◌, ℕ, sym, subst}
use Rattle.vpg_desk.specs.Book.{Undo, Undone}
use Rattle.vpg_desk.specs.State.{IsStep}
use Rattle.vpg_desk.proofs.Restored.{undo_restored}
use Rattle.vpg_desk.proofs.desk.Desk.undo.Goals as goal
use Rattle.vpg_desk.proofs.desk.Desk.undo.Goals.{After-of}

step : (c : After-of) (session : ℕ) → IsStep c.args.self.now session (Undo c.args.token) (Undone c.args.token) c.swing_back.new.self
step c session = subst (λ (n : ℕ). IsStep c.args.self.now session (Undo n) (Undone n) c.swing_back.new.self) c.serial.ensures (c.in-Ok.ensures.accepted session)

pub returns-in-Ok-clause-accepted : goal.returns-in-Ok-clause-accepted
returns-in-Ok-clause-accepted c session =
    let at = (goal.at.returns-in-Ok-clause-accepted c).After-of in
    subst (λ (n : ℕ). IsStep c.args.self.now session (Undo c.args.token) (Undone n) c.swing_back.new.self) (sym (c.of.ensures ∙ c.spend.ensures)) (step at session)

pub returns-in-Ok-clause-restores : goal.returns-in-Ok-clause-restores
returns-in-Ok-clause-restores c = undo_restored c.args.self.now c.swing_back.new.self c.args.token (step (goal.at.returns-in-Ok-clause-restores c).After-of 0)
