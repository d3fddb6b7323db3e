use Rattle.std.proofs.Common.{List, sym, subst}
use Rattle.vpg_written.proofs.Tasks.{hidden_at}
use Rattle.vpg_written.specs.Tasks.{IsAt}
use Rattle.vpg_written.specs.Shapes.{shift_form}
use Rattle.vpg_written.specs.declared.task.Binder.{Binder}
use Rattle.vpg_written.proofs.opening.hidden.Goals as goal

pub returns-clause-place : goal.returns-clause-place
returns-clause-place c = λ g f h. subst (λ (bs : List Binder). IsAt g c.args.place.term.now c.args.place.is_negated c.args.place.earlier bs (shift_form 0 f)) (sym c.in_ok-push.ensures.items) (hidden_at g _ _ _ _ f h)
