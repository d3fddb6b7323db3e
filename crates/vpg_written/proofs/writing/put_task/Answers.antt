use Rattle.std.proofs.Common.{List, ◌∷◌, reverse, sym, subst}
use Rattle.vpg_written.proofs.Filling.{task_in_front}
use Rattle.vpg_written.specs.Tasks.{Fill}
use Rattle.vpg_written.specs.declared.task.Item.{Item}
use Rattle.vpg_written.proofs.writing.put_task.Goals as goal

pub returns : goal.returns
returns c = λ g fs f is rest. subst (λ (is : List Item). Fill g (f ∷ fs) (reverse is)) (sym c.in_ok-push.ensures.items) (task_in_front g c.args.items.now.items c.args.task f fs is rest)
