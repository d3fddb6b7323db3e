-- A system that was read as the theorem's, and its transitions by their sources. This project's own.
use Rattle.std.specs.Prelude.{◌≡◌, ℕ, ◌<◌, List, length, map, filter, ◌==◌}
use Rattle.vpg_guards.specs.Formula.{Formula as Guard}
use Rattle.vpg_system.specs.SystemText.{Transition as NamedTransition, NamedSystem}
use Rattle.vpg_requirement.specs.Systems.{Transition, System}
use Rattle.vpg_model.specs.Departures.{Departure}
use Rattle.vpg_model.specs.Pairs.{departures_at}

-- a transition, with its source, action and target as a step
abbrev pub transition_in : NamedTransition → Transition Guard
transition_in t =
    record { step = record { source = t.source; label = t.action; target = t.target }; guard = t.guard }

-- The featured transition system that was read: its states, and its transitions in the order of the text. Actions are
-- their numbers.
abbrev pub system_of : NamedSystem → System Guard
system_of s = record { states = s.states; transitions = map transition_in s.transitions }

-- a transition from a known state
abbrev pub departure_of : NamedTransition → Departure
departure_of t = record { action = t.action; guard = t.guard; target = t.target }

-- the transitions from a state, in order
abbrev pub departures_from : ℕ → List NamedTransition → List Departure
departures_from s ts = map departure_of (filter (λ t. t.source == s) ts)

-- the lists, one for each of this many states, have the transitions from it
pub record ArePlacedBySource (count : ℕ) (ts : List NamedTransition) (states : List (List Departure)) : Type 0 where
  pub count_is : length states ≡ count
  pub each : (s : ℕ) → s < count → departures_at states s ≡ departures_from s ts
