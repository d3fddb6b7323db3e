-- The facts on pairs hold of their situations; so the game is a model of formulas, and decides them. This project's
-- own.
use Rattle.std.specs.Prelude.{◌≡◌, ℕ, ◌<◌, List, [], map, length, Bool, false, slice_index}
use Rattle.std.specs.List.{AllZip}
use Rattle.vpg_sides.specs.declared.player.Player.TheVariants.{Even}
use Rattle.vpg_guards.specs.Formula.{Formula as Guard, truth}
use Rattle.vpg_diagram.specs.FeatureDiagram.{Line, IsProduct}
use Rattle.vpg_game.specs.Guarded.{GuardedGame}
use Rattle.vpg_requirement.specs.Actions.{ActionFormula}
use Rattle.vpg_requirement.specs.Systems.{System, product_system, IsClosedFamily}
use Rattle.vpg_requirement.specs.Formulas.{Formula, Means, IsPositive}
use Rattle.vpg_requirement.specs.NormalForms.{NormalForm, met, unmet}
use Rattle.vpg_requirement.specs.Priorities.{normal_form}
use Rattle.vpg_requirement.specs.Situations.{Binder, Situation, situation, situation_at}
use Rattle.vpg_requirement.specs.Building.{IsBuiltOf, IsAlikeGame, IsReached}
use Rattle.vpg_requirement.specs.Laws.{IsDecided}
use Rattle.vpg_hope.specs.Hope.{product_game}
use Rattle.vpg_parts.specs.declared.part.Part.{Part}
use Rattle.vpg_parts.specs.Parts.{HasConstants}
use Rattle.vpg_parts.specs.Preorder.{form_of, IsChained}
use Rattle.vpg_parts.specs.Sets.{actions_at, ArePermitted}
use Rattle.vpg_model.specs.Departures.{Departure}
use Rattle.vpg_model.specs.Pairs.{pair_for, IsPairGame}
use Rattle.vpg_model.specs.Forms.{AreDepartures, StandFor, HasLabels, situation_in}

-- The game of pairs has a row for each of their situations, and only what can be reached. The vertex of a part at a
-- state has the situation of that part.
abbrev pub PairGameIsBuilt : Type 0
PairGameIsBuilt = (labels : ℕ) (system : System Guard) (states : List (List Departure)) (sets : List (List Bool))
    (parts : List Part) (form : ℕ → NormalForm) (scope : ℕ → List Binder) → AreDepartures system states →
    HasLabels labels states → StandFor labels sets parts form scope →
    ((s k : ℕ) → situation_in form scope (pair_for parts s k) ≡ situation s (form k) (scope k)) ×
    ((roots pairs : List (ℕ × ℕ)) (vertices : List ℕ) (game : GuardedGame Guard) →
    IsPairGame states sets parts roots pairs vertices game →
    IsBuiltOf Even 0 system (map (situation_in form scope) pairs) game ×
    IsReached system (map (situation_in form scope) roots) (map (situation_in form scope) pairs))

-- the situation of each root at the first state is at the vertex that is named for it
abbrev pub AreRooted : ℕ → List ℕ → (ℕ → NormalForm) → (ℕ → List Binder) → List Situation → List ℕ → Type 0
AreRooted first roots form scope places vertices =
    AllZip (λ k v. (v < length places) × (situation_at places v ≡ situation first (form k) (scope k))) roots vertices

-- the normal form has at most one vertex
abbrev pub HasOneVertex : NormalForm → List Situation → Type 0
HasOneVertex form places = (u v : ℕ) → u < v → v < length places → (situation_at places u).part ≡ form →
    (situation_at places v).part ≡ form → ⊥

-- The game has a row for the situation of each pair, and the roots have the vertices that are named. Each situation is
-- that of a root or can be reached.
pub record IsGameOf (system : System Guard) (first : ℕ) (roots : List ℕ) (form : ℕ → NormalForm)
    (scope : ℕ → List Binder) (pairs : List (ℕ × ℕ)) (vertices : List ℕ) (game : GuardedGame Guard) : Type 0 where
  pub built : IsBuiltOf Even 0 system (map (situation_in form scope) pairs) game
  pub rooted : AreRooted first roots form scope (map (situation_in form scope) pairs) vertices
  pub reached : IsReached system (map (λ k. situation first (form k) (scope k)) roots)
      (map (situation_in form scope) pairs)
  -- `true` and `false` are shared by all requirements and states
  pub one_met : HasOneVertex met (map (situation_in form scope) pairs)
  pub one_unmet : HasOneVertex unmet (map (situation_in form scope) pairs)

-- For any normal forms that the parts stand for, the game is theirs and that of each system with these transitions.
abbrev pub IsGameOfParts : List (List Departure) → List (List Bool) → List Part → ℕ → List ℕ → List (ℕ × ℕ) →
    List ℕ → GuardedGame Guard → Type 0
IsGameOfParts states sets parts first roots pairs vertices game =
    (labels : ℕ) (system : System Guard) (form : ℕ → NormalForm) (scope : ℕ → List Binder) →
    AreDepartures system states → HasLabels labels states → StandFor labels sets parts form scope →
    IsGameOf system first roots form scope pairs vertices game

-- The root of this number is the formula's normal form. The chains have the fixpoints around each part; there are none
-- around a root. For each set of actions there is an action formula, which permits those of this many that the set has.
pub record IsRootOf (labels : ℕ) (sets : List (List Bool)) (parts : List Part) (roots : List ℕ) (n : ℕ)
    (formula : Formula) : Type 0 where
  pub actions : List ActionFormula
  pub permitted : (x : ℕ) → ArePermitted labels sets x (actions_at actions x)
  -- places 0 and 1 are `true` and `false`
  pub constants : HasConstants parts
  pub chain : ℕ → List ℕ
  pub chained : IsChained parts chain
  pub some : n < length roots
  pub outermost : chain (slice_index roots n) ≡ []
  pub form : form_of parts actions chain (slice_index roots n) ≡ normal_form formula
  -- each variable has a fixpoint, and stands under an even number of negations within it
  pub positive : IsPositive [] false formula

-- The lists are those of a system with transitions that lead to its states, by this many actions; this is one of its
-- states.
pub record AreOfSystem (labels : ℕ) (system : System Guard) (states : List (List Departure)) (first : ℕ) : Type 0 where
  pub departures : AreDepartures system states
  pub labelled : HasLabels labels states
  pub closed : IsClosedFamily system
  pub state : first < system.states

-- The game is a model of the family's system and the formula at this state, over a diagram. It is built from them, and
-- the vertex has the formula's situation at the state. Its guards may be written otherwise, each as true in each
-- product. The theorem on desks' verdicts asks no more of a game.
pub record IsModel (lines : List Line) (game : GuardedGame Guard) (system : System Guard) (formula : Formula)
    (s v : ℕ) : Type 0 where
  pub closed : IsClosedFamily system
  pub state : s < system.states
  pub positive : IsPositive [] false formula
  -- a row for each situation of some list
  pub places : List Situation
  pub built : GuardedGame Guard
  pub is_built : IsBuiltOf Even 0 system places built
  pub alike : IsAlikeGame (IsProduct lines) built game
  pub vertex : v < length game
  pub root : situation_at places v ≡ situation s (normal_form formula) []

-- The game of parts is a model of each formula with its normal form at a root, at the vertex that is named for the
-- root, over each diagram.
abbrev pub GameOfPartsIsModel : Type 0
GameOfPartsIsModel = (states : List (List Departure)) (sets : List (List Bool)) (parts : List Part) (first : ℕ)
    (roots : List ℕ) (pairs : List (ℕ × ℕ)) (vertices : List ℕ) (game : GuardedGame Guard) →
    IsGameOfParts states sets parts first roots pairs vertices game →
    (labels : ℕ) (system : System Guard) → AreOfSystem labels system states first →
    (n : ℕ) (formula : Formula) → IsRootOf labels sets parts roots n formula → (lines : List Line) →
    IsModel lines game system formula first (slice_index vertices n)

-- So in each product the game decides each such formula there.
abbrev pub GameOfPartsDecides : Type 0
GameOfPartsDecides = (states : List (List Departure)) (sets : List (List Bool)) (parts : List Part) (first : ℕ)
    (roots : List ℕ) (pairs : List (ℕ × ℕ)) (vertices : List ℕ) (game : GuardedGame Guard) →
    IsGameOfParts states sets parts first roots pairs vertices game →
    (labels : ℕ) (system : System Guard) → AreOfSystem labels system states first →
    (n : ℕ) (formula : Formula) → IsRootOf labels sets parts roots n formula → (set : List Bool) →
    IsDecided (Means (product_system (truth set) system) [] formula first) (product_game (truth set) game)
    (slice_index vertices n)
