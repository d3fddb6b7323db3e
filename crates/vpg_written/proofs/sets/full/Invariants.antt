use Rattle.std.proofs.Common.{true}
use Rattle.vpg_written.proofs.Values.{HasValues}
use Rattle.vpg_written.proofs.sets.full.Given as goal

abbrev pub invariant-loop-action : goal.invariant-loop-action
invariant-loop-action l = HasValues (λ a. true) l._action l.actions.items
