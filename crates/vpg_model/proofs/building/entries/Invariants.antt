use Rattle.std.proofs.Common.{◌≤◌, ◌-◌, length}
use Rattle.vpg_model.specs.Searching.{IsSearched}
use Rattle.vpg_model.proofs.building.entries.Given as goal

abbrev pub invariant-loop-pair : goal.invariant-loop-pair
invariant-loop-pair l = record {
  few : l.count ≤ 1048576;
  searched : IsSearched l.source.states.items l.source.sets.items l.source.parts.items l.initial.pairs.keys l.pairs.keys l.entries.items l.count;
}

abbrev pub decreases-loop-pair : goal.decreases-loop-pair
decreases-loop-pair l = 65536 - length l.entries.items
