use Rattle.std.proofs.Common.{[], ◌∷◌, refl, subst}
use Rattle.vpg_requirement.specs.Actions.{ActionFormula, every_action}
use Rattle.vpg_parts.specs.Sets.{actions_at}
use Rattle.vpg_written.specs.Shapes.{joined_form, shift_form, coming, inevitable}
use Rattle.vpg_written.specs.Tasks.{IsToCome}
use Rattle.vpg_written.proofs.writing.put_inevitable.Goals as goal

pub returns : goal.returns
returns c = λ g f place fs rest.
    let sign = c.args.place.is_negated in
    let last = coming sign (actions_at g.actions 0) in
    let body = joined_form sign (shift_form 0 f) in
    let a = c.in_ok-put_coming.ensures g fs rest in
    let b = c.in_ok-put_task.ensures g (last ∷ fs) (shift_form 0 f) (c.plain-task.ensures g (shift_form 0 f) (c.in_ok-inner.ensures.place g f place)) a in
    let d = c.in_ok-put_symbol.ensures g fs (shift_form 0 f ∷ last ∷ []) (body last) (c.joint.ensures g (shift_form 0 f) last) b in (
      inevitable sign f,
      fs,
      body (coming sign every_action) ∷ [],
      refl,
      c.fixpoint.ensures g (body (coming sign every_action)),
      subst (λ (x : ActionFormula). IsToCome g (body (coming sign x) ∷ fs) c.put_symbol.new.items.items) g.constants.every d,
    )
