-- A family of two states, a formula, and the game that is built: an example that satisfies what the laws require of a
-- game. This project's own.
use Rattle.std.specs.Prelude.{◌≡◌, ℕ, List, [], ◌∷◌, Bool, true, false, Some}
use Rattle.vpg_sides.specs.declared.player.Player.TheVariants.{Even, Odd}
use Rattle.vpg_guards.specs.Formula.{Formula as Guard, always as sure, feature, truth}
use Rattle.vpg_game.specs.Guarded.{GuardedEdge, GuardedGame}
use Rattle.vpg_hope.specs.Hope.{product_game}
use Rattle.vpg_requirement.specs.Actions.{action, every_action}
use Rattle.vpg_requirement.specs.Systems.{System, Transition, product_system}
use Rattle.vpg_requirement.specs.Fixpoints.{least}
use Rattle.vpg_requirement.specs.Formulas.{Formula, Means}
use Rattle.vpg_requirement.specs.NormalForms.{met, either, some_step, variable, NormalForm}
use Rattle.vpg_requirement.specs.Priorities.{normal_form}
use Rattle.vpg_requirement.specs.Situations.{Binder, Situation, situation}
use Rattle.vpg_requirement.specs.Construction.{construction}
use Rattle.vpg_requirement.specs.Words.{possibly, can}
use Rattle.vpg_requirement.specs.Laws.{IsDecided}

-- action 1 leads from state 0 to state 1 if there is feature 1, and action 2 back
abbrev pub small_forth : Transition Guard
small_forth = record { step = record { source = 0; label = 1; target = 1 }; guard = feature 1 }

abbrev pub small_back : Transition Guard
small_back = record { step = record { source = 1; label = 2; target = 0 }; guard = sure }

-- the family of these two transitions
abbrev pub small_system : System Guard
small_system = record { states = 2; transitions = small_forth ∷ small_back ∷ [] }

-- some way leads to a state where action 2 is possible
abbrev pub small_formula : Formula
small_formula = possibly (can (action 2))

abbrev small_now : NormalForm
small_now = some_step (action 2) met

abbrev small_later : NormalForm
small_later = some_step every_action (variable 0)

abbrev small_scope : List Binder
small_scope = record { kind = least; priority = 1; body = either small_now small_later } ∷ []

abbrev small_place : ℕ → NormalForm → Situation
small_place s part = record { state = s; part = part; scope = small_scope }

-- the situations that can be reached, in the order of the search
abbrev pub small_places : List Situation
small_places =
    small_place 0 (variable 0) ∷ small_place 0 (either small_now small_later) ∷ small_place 0 small_now
    ∷ small_place 0 small_later ∷
    small_place 1 (variable 0) ∷ small_place 1 (either small_now small_later) ∷ small_place 1 small_now
    ∷ small_place 1 small_later ∷
    record { state = 0; part = met; scope = [] } ∷ []

abbrev free_to : ℕ → GuardedEdge Guard
free_to v = record { to = v; guard = sure }

-- their game
abbrev pub small_game : GuardedGame Guard
small_game =
    record { owner = Even; priority = 1; edges = free_to 1 ∷ [] } ∷
    record { owner = Even; priority = 0; edges = free_to 2 ∷ free_to 3 ∷ [] } ∷
    record { owner = Even; priority = 0; edges = [] } ∷
    record { owner = Even; priority = 0; edges = record { to = 4; guard = feature 1 } ∷ [] } ∷
    record { owner = Even; priority = 1; edges = free_to 5 ∷ [] } ∷
    record { owner = Even; priority = 0; edges = free_to 6 ∷ free_to 7 ∷ [] } ∷
    record { owner = Even; priority = 0; edges = free_to 8 ∷ [] } ∷
    record { owner = Even; priority = 0; edges = free_to 0 ∷ [] } ∷
    record { owner = Odd; priority = 0; edges = [] } ∷ []

-- The game decides the formula in both products, and the formula holds in only one of them.
pub record SmallFamilyIsDecided : Type 0 where
  pub decided : (set : List Bool) →
      IsDecided (Means (product_system (truth set) small_system) [] small_formula 0)
      (product_game (truth set) small_game) 0
  pub holds : Means (product_system (truth (true ∷ true ∷ [])) small_system) [] small_formula 0
  pub constructs : construction Even 0 100 small_system (situation 0 (normal_form small_formula) [] ∷ [])
      ≡ Some (small_places, small_game)
  pub fails : Means (product_system (truth (true ∷ false ∷ [])) small_system) [] small_formula 0 → ⊥
