use Rattle.vpg_meaning.specs.Labels.{is_named, name_at}
use Rattle.vpg_written.proofs.Values.{HasValues}
use Rattle.vpg_written.proofs.sets.named.Given as goal

abbrev pub invariant-loop-action : goal.invariant-loop-action
invariant-loop-action l = HasValues (λ a. is_named l.label (name_at l.system.actions a)) l.action l.actions.items
