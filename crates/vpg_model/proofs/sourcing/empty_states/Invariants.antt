use Rattle.std.proofs.Common.{◌≡◌, [], replicate}
use Rattle.vpg_model.proofs.sourcing.empty_states.Given as goal

abbrev pub invariant-loop : goal.invariant-loop
invariant-loop l = l.states.items ≡ replicate l.counter []
