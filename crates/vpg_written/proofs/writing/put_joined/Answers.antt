use Rattle.std.proofs.Common.{[], ◌∷◌, refl}
use Rattle.vpg_written.specs.Shapes.{joined_form}
use Rattle.vpg_written.proofs.writing.put_joined.Goals as goal

pub returns : goal.returns
returns c = λ g e f first second fs rest. (joined_form c.args.is_both e f, fs, e ∷ f ∷ [], refl, c.joint.ensures g e f, c.in_ok-put_task-2.ensures g (f ∷ fs) e first (c.in_ok-put_task.ensures g fs f second rest))
