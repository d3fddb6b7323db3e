use Rattle.std.proofs.Common.{[], ◌∷◌, refl}
use Rattle.vpg_parts.specs.Sets.{actions_at}
use Rattle.vpg_written.specs.Shapes.{step_form}
use Rattle.vpg_written.proofs.writing.put_step.Goals as goal

pub returns : goal.returns
returns c = λ g f task fs rest. (step_form c.args.is_every (actions_at g.actions c.args.set) f, fs, f ∷ [], refl, c.step.ensures g f, c.in_ok-put_task.ensures g fs f task rest)
