-- Reasons to stop before the winners are found. This project's own.
use Rattle.std.specs.Prelude.{◌≡◌, ℕ, ◌≤◌, ⊤, length}
use Rattle.vpg_zielonka.specs.declared.universe.Universe.{Universe}
use Rattle.vpg_sets.specs.Sets.{Arena}
use Rattle.vpg_sets.specs.declared.fault.SetsFault.{SetsFault}
use Rattle.vpg_sets.specs.declared.fault.SetsFault.TheVariants as faults
use Rattle.vpg_zielonka.specs.Universes.{IsAtLimit}
use Rattle.vpg_zielonka.specs.declared.stop.Stop.{Stop}
use Rattle.vpg_zielonka.specs.declared.stop.Stop.TheVariants as stops

-- the arena has as many nodes as it may have
abbrev pub IsFull : Arena → Type 0
IsFull arena = arena.limit ≤ length arena.nodes

-- the universe is at its limit, or the steps are spent
abbrev pub StopsAt : Universe → ℕ → Stop → Type 0
StopsAt universe steps stops.Full = IsAtLimit universe
StopsAt universe steps stops.Spent = steps ≡ 0
StopsAt universe steps stops.Memory = ⊤

-- why a set could not be made
abbrev pub stop_of : SetsFault → Stop
stop_of faults.Full = stops.Full
stop_of faults.Memory = stops.Memory
