use Rattle.std.proofs.Common.{take}
use Rattle.vpg_system.specs.SystemView.{transitions_of}
use Rattle.vpg_model.specs.Sources.{ArePlacedBySource}
use Rattle.vpg_model.proofs.sourcing.states_of.Given as goal

abbrev pub invariant-loop-transition : goal.invariant-loop-transition
invariant-loop-transition l = ArePlacedBySource l.system.states (transitions_of (take l.transition-index l.transitions)) l.states.items
