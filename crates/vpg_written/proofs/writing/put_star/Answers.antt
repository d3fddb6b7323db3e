use Rattle.std.proofs.Common.{[], ◌∷◌, refl}
use Rattle.vpg_requirement.specs.NormalForms.{variable}
use Rattle.vpg_written.specs.Shapes.{joined_form, shift_form, star}
use Rattle.vpg_written.proofs.writing.put_star.Goals as goal

pub returns : goal.returns
returns c = λ g f again task way fs rest.
    let a = c.in_ok-put_task.ensures g fs again (c.in_ok-again.ensures g (variable 0) again (c.plain.ensures g (variable 0) refl) way) rest in
    let b = c.in_ok-put_task-2.ensures g (again ∷ fs) (shift_form 0 f) (c.in_ok-inner.ensures g f task) a in
    let body = joined_form c.args.is_every (shift_form 0 f) again in
    (star c.args.is_every again f, fs, body ∷ [], refl, c.fixpoint.ensures g body, c.in_ok-put_symbol.ensures g fs (shift_form 0 f ∷ again ∷ []) body (c.joint.ensures g (shift_form 0 f) again) b)
