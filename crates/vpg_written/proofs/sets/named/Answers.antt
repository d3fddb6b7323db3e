use Rattle.std.proofs.Common.{ℕ, subst, arith}
use Rattle.vpg_written.proofs.Values.{no_values, named_set, HasValues}
use Rattle.vpg_meaning.specs.Labels.{is_named, name_at}
use Rattle.vpg_written.proofs.sets.named.Goals as goal

pub loop-action-init : goal.loop-action-init
loop-action-init c = no_values _ _ c.new-actions.ensures.items

pub returns : goal.returns
returns c = named_set c.args.label.now c.args.system.now.actions c.loop-action.actions.items
    (subst (λ (n : ℕ). HasValues (λ a. is_named c.args.label.now (name_at c.args.system.now.actions a)) n c.loop-action.actions.items) (omega arith) c.loop-action.invariant)
