use Rattle.std.proofs.Common.{Bool, sym, subst}
use Rattle.vpg_written.specs.Tasks.{IsStepBy, IsWay, IsOpening}
use Rattle.vpg_written.specs.declared.task.Way.{Way}
use Rattle.vpg_written.proofs.opening.open_step.Goals as goal

pub returns-then-step : goal.returns-then-step
returns-then-step c = λ g f h task step. let x = (subst (λ (b : Bool). IsStepBy g b c.args.step.way c.args.step.is_every f h) c.if-step.true step) in (f, x.0, task, x.1, x.2)

pub returns-in-Action : goal.returns-in-Action
returns-in-Action c = λ g f h task step. let x = (subst (λ (b : Bool). IsStepBy g b c.args.step.way c.args.step.is_every f h) c.if-step.false step) in (f, task, subst (λ (w : Way). IsWay g w c.args.step.is_every f h) c.in-Action.is x)

pub returns-in_ok-along-in-Regular : goal.returns-in_ok-along-in-Regular
returns-in_ok-along-in-Regular c = λ g f h task step. let x = subst (λ (w : Way). IsWay g w c.args.step.is_every f h) c.in-Regular.is (subst (λ (b : Bool). IsStepBy g b c.args.step.way c.args.step.is_every f h) c.if-step.false step) in
    subst (IsOpening g c.in_ok-along-in-Regular.field-0) (sym x.2) (c.in_ok-along-in-Regular.ensures g x.0 f x.1 task)
