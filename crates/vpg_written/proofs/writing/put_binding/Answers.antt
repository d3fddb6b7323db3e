use Rattle.std.proofs.Common.{[], ◌∷◌, refl}
use Rattle.vpg_requirement.specs.NormalForms.{fixpoint}
use Rattle.vpg_written.specs.Shapes.{kind_for}
use Rattle.vpg_written.proofs.writing.put_binding.Goals as goal

pub returns : goal.returns
returns c = λ g f place fs rest. (fixpoint (kind_for c.args.is_greatest) 0 f, fs, f ∷ [], refl, c.fixpoint.ensures g f, c.in_ok-put_task.ensures g fs f (c.plain-task.ensures g f place) rest)
