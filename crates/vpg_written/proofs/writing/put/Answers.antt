use Rattle.std.proofs.Common.{sym, subst}
use Rattle.vpg_requirement.specs.NormalForms.{NormalForm}
use Rattle.vpg_written.specs.Tasks.{IsOpening, Writes}
use Rattle.vpg_written.specs.declared.task.Opening.{Opening}
use Rattle.vpg_written.proofs.writing.put.Goals as goal

pub returns-in_ok-put_joined-in-Joined : goal.returns-in_ok-put_joined-in-Joined
returns-in_ok-put_joined-in-Joined c = λ g f o. let x = subst (λ (y : Opening). IsOpening g y f) c.in-Joined.is o in
    subst (λ (y : NormalForm). Writes g y c.in_ok-put_joined-in-Joined.field-0 c.args.items.now.items c.put_joined.new.items.items) (sym x.4) (c.in_ok-put_joined-in-Joined.ensures g x.0 x.1 x.2 x.3)

pub returns-in_ok-put_step-in-Step : goal.returns-in_ok-put_step-in-Step
returns-in_ok-put_step-in-Step c = λ g f o. let x = subst (λ (y : Opening). IsOpening g y f) c.in-Step.is o in
    subst (λ (y : NormalForm). Writes g y c.in_ok-put_step-in-Step.field-0 c.args.items.now.items c.put_step.new.items.items) (sym x.2) (c.in_ok-put_step-in-Step.ensures g x.0 x.1)

pub returns-in_ok-put_star-in-Star : goal.returns-in_ok-put_star-in-Star
returns-in_ok-put_star-in-Star c = λ g f o. let x = subst (λ (y : Opening). IsOpening g y f) c.in-Star.is o in
    subst (λ (y : NormalForm). Writes g y c.in_ok-put_star-in-Star.field-0 c.args.items.now.items c.put_star.new.items.items) (sym x.4) (c.in_ok-put_star-in-Star.ensures g x.0 x.1 x.2 x.3)

pub returns-in_ok-put_binding-in-Binding : goal.returns-in_ok-put_binding-in-Binding
returns-in_ok-put_binding-in-Binding c = λ g f o. let x = subst (λ (y : Opening). IsOpening g y f) c.in-Binding.is o in
    subst (λ (y : NormalForm). Writes g y c.in_ok-put_binding-in-Binding.field-0 c.args.items.now.items c.put_binding.new.items.items) (sym x.2) (c.in_ok-put_binding-in-Binding.ensures g x.0 x.1)

pub returns-in_ok-put_inevitable-in-Inevitably : goal.returns-in_ok-put_inevitable-in-Inevitably
returns-in_ok-put_inevitable-in-Inevitably c = λ g f o. let x = subst (λ (y : Opening). IsOpening g y f) c.in-Inevitably.is o in
    subst (λ (y : NormalForm). Writes g y c.in_ok-put_inevitable-in-Inevitably.field-0 c.args.items.now.items c.put_inevitable.new.items.items) (sym x.2) (c.in_ok-put_inevitable-in-Inevitably.ensures g x.0 x.1)

pub returns-in_ok-put_will-in-Will : goal.returns-in_ok-put_will-in-Will
returns-in_ok-put_will-in-Will c = λ g f o. let x = subst (λ (y : Opening). IsOpening g y f) c.in-Will.is o in
    subst (λ (y : NormalForm). Writes g y c.in_ok-put_will-in-Will.field-0 c.args.items.now.items c.put_will.new.items.items) (sym x) (c.in_ok-put_will-in-Will.ensures g)
