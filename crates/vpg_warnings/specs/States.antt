-- The states of a system that cannot be reached: there is no path to them. This project's own.
use Rattle.std.specs.Prelude.{ℕ, ◌<◌, ◌↔◌, List, Contains}
use Rattle.vpg_system.specs.SystemText.{NamedSystem}
use Rattle.vpg_system_draw.specs.Reached.{Leads, Step}
use Rattle.vpg_warnings.specs.Numbers.{AreInOrder}

-- no transitions lead to the state from the first one, whatever their guards
pub record IsUnreached (system : NamedSystem) (s : ℕ) : Type 0 where
  pub state : s < system.states
  pub no_path : Leads (Step system.transitions) system.first s → ⊥

-- The states that cannot be reached from the first one, each once, in the order of their numbers.
pub record AreUnreached (system : NamedSystem) (states : List ℕ) : Type 0 where
  pub in_order : AreInOrder 0 states
  pub each : (s : ℕ) → Contains states s ↔ IsUnreached system s
