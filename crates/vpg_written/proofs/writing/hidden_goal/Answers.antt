use Rattle.std.proofs.Common.{Bool, sym, subst, ◌∙◌, ap}
use Rattle.vpg_written.proofs.Tasks.{inevitable_inside}
use Rattle.vpg_written.specs.Tasks.{IsGoal}
use Rattle.vpg_written.specs.Shapes.{shift_form, inevitable}
use Rattle.vpg_written.specs.declared.task.Goal.{Goal}
use Rattle.vpg_written.proofs.writing.hidden_goal.Goals as goal

pub returns-in_ok-hidden-in-Inevitably : goal.returns-in_ok-hidden-in-Inevitably
returns-in_ok-hidden-in-Inevitably c = λ g f h. let x = subst (λ (y : Goal). IsGoal g y f) c.in-Inevitably.is h in
    let e = c.in_ok-hidden-in-Inevitably.ensures in
    (shift_form 0 x.0, e.place g x.0 x.1, inevitable_inside g c.in-Inevitably.place.is_negated f x.0 x.2 ∙ ap (λ (b : Bool). inevitable b (shift_form 0 x.0)) (sym e.sign))
