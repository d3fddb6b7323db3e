use Rattle.vpg_parts.specs.Sets.{is_permitted}
use Rattle.vpg_written.proofs.Values.{HasValues, joined_test}
use Rattle.vpg_written.proofs.sets.joined.Given as goal

abbrev pub invariant-loop-action : goal.invariant-loop-action
invariant-loop-action l = HasValues (λ a. joined_test l.is_both (is_permitted l.sets l.first a) (is_permitted l.sets l.second a)) l.action l.actions.items
