-- A step that is not marked is one of the system of each product that is left.
use Rattle.std.proofs.Common.{◌≡◌, ℕ, ◌<◌, Bool, true, List, length, get_or, Contains, sym, ap, ◌∙◌, subst}
use Rattle.std.specs.Prelude.{filter, ◌==◌}
use Rattle.std.proofs.lemmas.List.Elements.{Contains-get_or}
use Rattle.vpg_guards.specs.declared.tri.Tri.{Tri}
use Rattle.vpg_guards.specs.declared.tri.Tri.TheVariants.{Yes}
use Rattle.vpg_guards.specs.Formula.{Formula as Guard, truth}
use Rattle.vpg_guards.specs.Known.{Agrees, kleene}
use Rattle.vpg_guards.proofs.Kleene.{known_values_hold}
use Rattle.vpg_partial.proofs.Tables.{remaining_products_complete}
use Rattle.vpg_requirement.specs.Systems.{Transition, System, product_system}
use Rattle.vpg_requirement.proofs.Steps.{contains_mapped}
use Rattle.vpg_model.specs.Departures.{Departure}
use Rattle.vpg_model.specs.Forms.{AreDepartures}
use Rattle.vpg_model.specs.Pairs.{departures_at}
use Rattle.vpg_trace.specs.Laws.{UnmarkedStepsAreThere}
use Rattle.vpg_trace.specs.Taking.{departure_at, no_departure, value_told}
use Rattle.vpg_trace.proofs.Moving.{filtered, kept}

-- the transition with its source
abbrev sourced : ℕ → Departure → Transition Guard
sourced s t = record { step = record { source = s; label = t.action; target = t.target }; guard = t.guard }

-- a transition of a state is one of the system
pub is_there : (system : System Guard) (states : List (List Departure)) (s i : ℕ) → AreDepartures system states → i < length (departures_at states s) →
    Contains system.transitions (sourced s (get_or (departures_at states s) i no_departure))
is_there system states s i are l =
    (filtered (λ (t : Transition Guard). t.step.source == s) system.transitions _
    (subst (λ (ts : List (Transition Guard)). Contains ts (sourced s (get_or (departures_at states s) i no_departure))) (sym (are.leaving s))
    (contains_mapped (sourced s) (departures_at states s) (get_or (departures_at states s) i no_departure) (Contains-get_or (departures_at states s) i no_departure l)))).0

-- so a product whose features make its guard true has the step
pub in_product : (system : System Guard) (t : Transition Guard) (set : List Bool) → Contains system.transitions t → truth set t.guard ≡ true → Contains (product_system (truth set) system).steps t.step
in_product system t set c e =
    contains_mapped (λ (u : Transition Guard). u.step) (filter (λ (u : Transition Guard). truth set u.guard) system.transitions) t
    (kept (λ (u : Transition Guard). truth set u.guard) system.transitions t c e)

pub unmarked_steps_are_there : UnmarkedStepsAreThere
unmarked_steps_are_there lines choices known system states sets parts from to taken is_diagram is_known are told unmarked set remains =
    in_product system (sourced taken.state (departure_at states taken)) set (is_there system states taken.state taken.index are told.within) holds
  where
    is_yes : kleene known (departure_at states taken).guard ≡ Yes
    is_yes = told.guard ∙ ap value_told unmarked

    holds : truth set (departure_at states taken).guard ≡ true
    holds = subst (λ (v : Tri). Agrees v (truth set (departure_at states taken).guard)) is_yes
        (known_values_hold known set (departure_at states taken).guard (remaining_products_complete lines choices known set is_diagram is_known remains))
