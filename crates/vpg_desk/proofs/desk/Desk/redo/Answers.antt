use Rattle.std.proofs.Common.{◌∙◌, ℕ, sym, subst}
use Rattle.vpg_desk.specs.Book.{Redo, Redone}
use Rattle.vpg_desk.specs.State.{IsStep}
use Rattle.vpg_desk.proofs.Restored.{redo_restored}
use Rattle.vpg_desk.proofs.desk.Desk.redo.Goals as goal
use Rattle.vpg_desk.proofs.desk.Desk.redo.Goals.{After-of}

step : (c : After-of) (session : ℕ) → IsStep c.args.self.now session (Redo c.args.token) (Redone c.args.token) c.swing_forth.new.self
step c session = subst (λ (n : ℕ). IsStep c.args.self.now session (Redo n) (Redone n) c.swing_forth.new.self) c.serial.ensures (c.in-Ok.ensures.accepted session)

pub returns-in-Ok-clause-accepted : goal.returns-in-Ok-clause-accepted
returns-in-Ok-clause-accepted c session =
    let at = (goal.at.returns-in-Ok-clause-accepted c).After-of in
    subst (λ (n : ℕ). IsStep c.args.self.now session (Redo c.args.token) (Redone n) c.swing_forth.new.self) (sym (c.of.ensures ∙ c.spend.ensures)) (step at session)

pub returns-in-Ok-clause-restores : goal.returns-in-Ok-clause-restores
returns-in-Ok-clause-restores c = redo_restored c.args.self.now c.swing_forth.new.self c.args.token (step (goal.at.returns-in-Ok-clause-restores c).After-of 0)
