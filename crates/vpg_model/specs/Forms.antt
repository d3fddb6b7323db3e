-- The normal forms of a list of parts: one at each place, in a scope. This project's own.
use Rattle.std.specs.Prelude.{◌≡◌, ℕ, ◌<◌, List, ◌∷◌, length, map, filter, drop, Bool, ◌==◌, All}
use Rattle.vpg_guards.specs.Formula.{Formula as Guard}
use Rattle.vpg_requirement.specs.Actions.{ActionFormula}
use Rattle.vpg_requirement.specs.Systems.{Transition, System}
use Rattle.vpg_requirement.specs.NormalForms.{NormalForm, met, unmet, both, either, some_step, every_step, fixpoint, variable}
use Rattle.vpg_requirement.specs.Situations.{Binder, Situation, situation}
use Rattle.vpg_parts.specs.declared.part.Kind.{Kind as PartKind}
use Rattle.vpg_parts.specs.declared.part.Part.{Part}
use Rattle.vpg_parts.specs.declared.part.Part.TheVariants.{True, False, And, Or, SomeStep, EveryStep, Fixpoint, Variable}
use Rattle.vpg_model.specs.Departures.{Departure}
use Rattle.vpg_parts.specs.Parts.{part_at, HasConstants, kind_of, binder_of}
use Rattle.vpg_parts.specs.Preorder.{form_of, scope_of, IsChained}
use Rattle.vpg_parts.specs.Sets.{actions_at, ArePermitted}
use Rattle.vpg_model.specs.Pairs.{departures_at}

-- ---- the system

-- the transitions from a state, with their source
abbrev pub transitions_from : ℕ → List Departure → List (Transition Guard)
transitions_from s departures =
    map (λ t. record { step = record { source = s; label = t.action; target = t.target }; guard = t.guard }) departures

-- The lists are the transitions of the system by their sources: for each state those from it, in the system's order.
pub record AreDepartures (system : System Guard) (states : List (List Departure)) : Type 0 where
  pub count : system.states ≡ length states
  pub leaving : (s : ℕ) →
      filter (λ t. t.step.source == s) system.transitions ≡ transitions_from s (departures_at states s)

-- ---- the parts

-- The part at a place, in its own scope, is the same situation at each state as it is in this scope.
abbrev pub IsUnder : (ℕ → NormalForm) → (ℕ → List Binder) → ℕ → List Binder → Type 0
IsUnder form scope k binders = (s : ℕ) → situation s (form k) (scope k) ≡ situation s (form k) binders

-- the part at a place stands for the normal form of the place: its own parts stand for that one's, each in its scope
abbrev pub IsFormAt : ℕ → List (List Bool) → List Part → (ℕ → NormalForm) → (ℕ → List Binder) → ℕ → Part → Type 0
IsFormAt labels sets parts form scope k True = form k ≡ met
IsFormAt labels sets parts form scope k False = form k ≡ unmet
IsFormAt labels sets parts form scope k (And a b) =
    (form k ≡ both (form a) (form b)) × IsUnder form scope a (scope k) × IsUnder form scope b (scope k)
IsFormAt labels sets parts form scope k (Or a b) =
    (form k ≡ either (form a) (form b)) × IsUnder form scope a (scope k) × IsUnder form scope b (scope k)
IsFormAt labels sets parts form scope k (SomeStep x a) =
    (actions : ActionFormula) × (form k ≡ some_step actions (form a)) × ArePermitted labels sets x actions ×
    IsUnder form scope a (scope k)
IsFormAt labels sets parts form scope k (EveryStep x a) =
    (actions : ActionFormula) × (form k ≡ every_step actions (form a)) × ArePermitted labels sets x actions ×
    IsUnder form scope a (scope k)
IsFormAt labels sets parts form scope k (Fixpoint kind p b) =
    (form k ≡ fixpoint (kind_of kind) p (form b)) × IsUnder form scope b (binder_of kind p (form b) ∷ scope k)
IsFormAt labels sets parts form scope k (Variable m) =
    (i : ℕ) × (kind : PartKind) × (p : ℕ) × (b : ℕ) × (part_at parts m ≡ Fixpoint kind p b) × (form k ≡ variable i) ×
    (drop i (scope k) ≡ binder_of kind p (form b) ∷ scope m)

-- The part at each place stands for this normal form, in this scope; `true` and `false` have their shared places.
pub record StandFor (labels : ℕ) (sets : List (List Bool)) (parts : List Part) (form : ℕ → NormalForm)
    (scope : ℕ → List Binder) : Type 0 where
  pub constants : HasConstants parts
  pub each : (k : ℕ) → IsFormAt labels sets parts form scope k (part_at parts k)

-- the situation of a pair
abbrev pub situation_in : (ℕ → NormalForm) → (ℕ → List Binder) → ℕ × ℕ → Situation
situation_in form scope pair = situation pair.0 (form pair.1) (scope pair.1)

-- each transition has an action below this number
abbrev pub HasLabels : ℕ → List (List Departure) → Type 0
HasLabels labels states = All (λ departures. All (λ t. t.action < labels) departures) states

-- In a list in which parts come after those that they are parts of, with `true` and `false` shared, parts stand for
-- normal forms, each in its scope.
abbrev pub ChainedPartsStand : Type 0
ChainedPartsStand =
    (labels : ℕ) (sets : List (List Bool)) (parts : List Part) (actions : List ActionFormula) (chain : ℕ → List ℕ) →
    HasConstants parts → IsChained parts chain → ((x : ℕ) → ArePermitted labels sets x (actions_at actions x)) →
    StandFor labels sets parts (form_of parts actions chain) (scope_of parts actions chain)
