use Rattle.std.proofs.Common.{ℕ, ◌≤◌, List, length, refl, sym, subst}
use Rattle.vpg_written.specs.Naming.{around_of}
use Rattle.vpg_written.specs.Tasks.{IsTask, form_at}
use Rattle.vpg_written.specs.declared.task.Binder.{Binder}
use Rattle.vpg_written.proofs.opening.joined.Goals as goal

pub returns : goal.returns
returns c = λ g s t a b known. let e = c.in_ok-copy_place.ensures in
    let copy = c.in_ok-copy_place.field-0 in
    let sign = c.args.is_first_negated in
    let x = c.formula-first.ensures g s a (subst (λ (n : ℕ). n ≤ length g.entries) (sym e.earlier) known) in (
      _,
      _,
      subst (λ (n : ℕ). IsTask g c.formula-first.result (form_at g n sign (around_of c.args.place.scope.items) s)) e.earlier
          (subst (λ (bs : List Binder). IsTask g c.formula-first.result (form_at g copy.earlier sign (around_of bs) s)) e.scope x),
      c.formula-second.ensures g t b known,
      refl,
    )
