use Rattle.std.proofs.Common.{◌≡◌, ◌++◌}
use Rattle.vpg_model.specs.Searching.{AreSuccessors}
use Rattle.vpg_model.proofs.building.successors.Given as goal

abbrev pub invariant-loop-step : goal.invariant-loop-step
invariant-loop-step l = record {
  successors : AreSuccessors l.initial.pairs.keys l.pairs.keys l.yielded l.successors.items;
  moves : l.yielded ++ l.step-iterator.rest.items ≡ l.fn.moves.items;
}
