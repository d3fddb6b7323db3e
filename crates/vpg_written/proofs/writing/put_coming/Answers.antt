use Rattle.std.proofs.Common.{not, [], ◌∷◌, refl, subst}
use Rattle.vpg_requirement.specs.Actions.{ActionFormula}
use Rattle.vpg_requirement.specs.NormalForms.{variable}
use Rattle.vpg_parts.specs.Sets.{actions_at}
use Rattle.vpg_written.specs.Shapes.{constant_form, joined_form, step_form}
use Rattle.vpg_written.specs.Tasks.{IsToCome}
use Rattle.vpg_written.proofs.writing.put_coming.Goals as goal

pub returns : goal.returns
returns c = λ g fs rest.
    let sign = c.args.sign in
    let last = step_form (not sign) (actions_at g.actions c.args.set) (variable 0) in
    let first = step_form sign (actions_at g.actions 0) (constant_form (not sign)) in
    let a = c.in_ok-put_symbol.ensures g fs [] (variable 0) (refl, refl) rest in
    let b = c.in_ok-put_symbol-2.ensures g fs (variable 0 ∷ []) last (c.step.ensures g (variable 0)) a in
    let d = c.in_ok-put_symbol-3.ensures g (last ∷ fs) [] (constant_form (not sign)) (c.constant.ensures g) b in
    let e = c.in_ok-put_symbol-4.ensures g (last ∷ fs) (constant_form (not sign) ∷ []) first (c.step-2.ensures g (constant_form (not sign))) d in
    let f = c.in_ok-put_symbol-5.ensures g fs (first ∷ last ∷ []) (joined_form (not sign) first last) (c.joint.ensures g first last) e in
    subst (λ (x : ActionFormula). IsToCome g (joined_form (not sign) (step_form sign x (constant_form (not sign))) last ∷ fs) c.put_symbol-5.new.items.items) g.constants.every f
