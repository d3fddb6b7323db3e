use Rattle.std.proofs.Common.{refl, subst, arith}
use Rattle.vpg_written.specs.Tasks.{IsGoal}
use Rattle.vpg_written.specs.declared.task.Goal.{Goal}
use Rattle.std.proofs.lemmas.Grind.{common_steps}
use Rattle.vpg_written.proofs.Tasks.{task_less, task_alone}
use Rattle.vpg_written.proofs.opening.opening_of.Goals as goal

pub returns-in-Some : goal.returns-in-Some
returns-in-Some c = λ g f terms task. let b = task_less g c.args.task _ c.in-Some.step f c.in-Some.ensures.items refl task in c.in_ok-open_step-in-Some.ensures g b.form f b.task b.step

pub returns-in-Variable : goal.returns-in-Variable
returns-in-Variable c = λ g f terms task. (subst (λ (x : Goal). IsGoal g x f) c.in-Variable.is (task_alone g c.args.task f (grind (arith, common_steps, c.in-None.ensures.cases)) task))

pub returns-in-Constant : goal.returns-in-Constant
returns-in-Constant c = λ g f terms task. (subst (λ (x : Goal). IsGoal g x f) c.in-Constant.is (task_alone g c.args.task f (grind (arith, common_steps, c.in-None.ensures.cases)) task))
