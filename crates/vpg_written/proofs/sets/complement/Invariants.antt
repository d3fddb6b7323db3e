use Rattle.std.proofs.Common.{not}
use Rattle.vpg_parts.specs.Sets.{is_permitted}
use Rattle.vpg_written.proofs.Values.{HasValues}
use Rattle.vpg_written.proofs.sets.complement.Given as goal

abbrev pub invariant-loop-action : goal.invariant-loop-action
invariant-loop-action l = HasValues (λ a. not (is_permitted l.sets l.set a)) l.action l.actions.items
