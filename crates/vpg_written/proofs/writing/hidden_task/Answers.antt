use Rattle.std.proofs.Common.{refl}
use Rattle.vpg_written.proofs.Tasks.{task_inside}
use Rattle.vpg_written.proofs.writing.hidden_task.Goals as goal

pub returns : goal.returns
returns c = λ g h is. task_inside g c.args.task _ h refl (c.in_ok-goal.ensures g) is
