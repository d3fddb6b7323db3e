-- The states that can be reached over transitions that may be there: reachability in a transition system, under what is
-- known of the features. This project's own.
use Rattle.std.specs.Prelude.{◌≡◌, ◌≢◌, ◌↔◌, ℕ, Bool, true, false, Contains, List, length, slice_index_or}
use Rattle.vpg_guards.specs.declared.tri.Tri.{Tri}
use Rattle.vpg_guards.specs.Known.{kleene}
use Rattle.vpg_system.specs.SystemText.{Transition, NamedSystem}

-- some steps, or none, lead from the first state to the second
pub data Leads (Step : ℕ → ℕ → Type 0) : ℕ → ℕ → Type 0 where
  here : {s : ℕ} → Leads Step s s
  onward : {s w u : ℕ} → Step s w → Leads Step w u → Leads Step s u

-- a transition that, under what is known, may be there leads from the first state to the second
pub record MayStep (known : List Tri) (transitions : List Transition) (s w : ℕ) : Type 0 where
  pub transition : Transition
  pub its : Contains transitions transition
  pub may_be : kleene known transition.guard ≢ Tri.No
  pub comes : transition.source ≡ s
  pub leads : transition.target ≡ w

-- Exactly those states are marked that such transitions lead to from the first one.
pub record AreReached (known : List Tri) (system : NamedSystem) (reached : List Bool) : Type 0 where
  pub count : length reached ≡ system.states
  pub each : (s : ℕ) → slice_index_or reached s false ≡ true ↔ Leads (MayStep known system.transitions) system.first s

-- a transition, whatever its guard, leads from the first state to the second
pub record Step (transitions : List Transition) (s w : ℕ) : Type 0 where
  pub transition : Transition
  pub its : Contains transitions transition
  pub comes : transition.source ≡ s
  pub leads : transition.target ≡ w

-- Exactly those states are marked that transitions lead to from the first one, whatever their guards.
pub record AreReachedByAny (system : NamedSystem) (reached : List Bool) : Type 0 where
  pub count : length reached ≡ system.states
  pub each : (s : ℕ) → slice_index_or reached s false ≡ true ↔ Leads (Step system.transitions) system.first s
