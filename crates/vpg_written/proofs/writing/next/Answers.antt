use Rattle.std.proofs.Common.{List, ◌∷◌, reverse, sym, subst}
use Rattle.vpg_requirement.specs.NormalForms.{NormalForm}
use Rattle.vpg_written.specs.Tasks.{Fill}
use Rattle.vpg_written.specs.declared.task.Item.{Item}
use Rattle.vpg_written.specs.declared.task.Item.TheVariants as items
use Rattle.vpg_written.proofs.writing.next.Goals as goal

pub returns-in_ok-put-in-Task : goal.returns-in_ok-put-in-Task
returns-in_ok-put-in-Task c = λ g fs terms fill.
    let x = subst (λ (i : Item). Fill g fs (i ∷ reverse c.args.items.now.items)) c.in-Task.is fill in
    subst (λ (xs : List NormalForm). Fill g xs (items.Symbol c.in_ok-put-in-Task.field-0 ∷ reverse c.put.new.items.items)) (sym x.2) (c.in_ok-put-in-Task.ensures g x.0 (c.in_ok-opening-in-Task.ensures g x.0 terms x.3) x.1 x.4)
