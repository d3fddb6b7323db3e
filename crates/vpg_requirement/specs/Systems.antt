-- Transition systems, as labelled ones are defined in the field. The *system* of a family has a guard at each
-- transition (a featured transition system: Classen, Heymans, Schobbens, Legay and Raskin, Model Checking Lots of
-- Systems, ICSE 2010, here with actions and without state propositions). The plain system of a product is its
-- projection to that product.
use Rattle.std.specs.Prelude.{ℕ, ◌<◌, List, map, filter, Bool, ◌&&◌, ◌==◌, All}
use Rattle.vpg_requirement.specs.Actions.{ActionFormula, permits}

-- a step from a state to a state, by an action; states and actions are numbers
pub record Step : Type 0 where
  pub source : ℕ
  pub label : ℕ
  pub target : ℕ

-- a step with a guard: only the products that make the guard true have it
pub record Transition (Guard : Type 0) : Type 0 where
  pub step : Step
  pub guard : Guard

-- The system of a family: its states are the numbers below the count.
pub record System (Guard : Type 0) : Type 0 where
  pub states : ℕ
  pub transitions : List (Transition Guard)

-- the system of one product
pub record PlainSystem : Type 0 where
  pub states : ℕ
  pub steps : List Step

-- each step leads to a state
abbrev pub IsClosedSystem : PlainSystem → Type 0
IsClosedSystem system = All (λ step. step.target < system.states) system.steps

-- each transition leads to a state
abbrev pub IsClosedFamily : {Guard : Type 0} → System Guard → Type 0
IsClosedFamily system = All (λ t. t.step.target < system.states) system.transitions

-- The system of a product: all states, and the steps of the transitions with a true guard.
abbrev pub product_system : {Guard : Type 0} → (Guard → Bool) → System Guard → PlainSystem
product_system truth system =
    record { states = system.states; steps = map (λ t. t.step) (filter (λ t. truth t.guard) system.transitions) }

-- the states that steps by permitted actions from a state lead to
abbrev pub successors : PlainSystem → ActionFormula → ℕ → List ℕ
successors system x s =
    map (λ step. step.target) (filter (λ step. (step.source == s) && permits x step.label) system.steps)
