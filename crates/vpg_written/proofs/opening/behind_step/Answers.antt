use Rattle.std.proofs.Common.{refl}
use Rattle.vpg_written.proofs.Tasks.{task_behind}
use Rattle.vpg_written.proofs.opening.behind_step.Goals as goal

pub returns : goal.returns
returns c = λ g f h task step. task_behind g c.args.task _ c.args.step f h c.in_ok-push.ensures.items refl task step
