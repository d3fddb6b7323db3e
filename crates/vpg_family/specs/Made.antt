-- The system that the game of a family was made of, if a system and requirements stand in its place. This project's
-- own.
use Rattle.std.specs.Prelude.{◌≡◌, ℕ, List, [], Option, Some, None, length, map}
use Rattle.vpg_diagram.specs.DiagramText.{NamedDiagram}
use Rattle.vpg_game.specs.Game.{NamedGame, graph_of}
use Rattle.vpg_system.specs.SystemText.{NamedSystem, IsTextOf}
use Rattle.vpg_model.specs.Laws.{AreOfSystem}
use Rattle.vpg_model.specs.Pairs.{pair_for}
use Rattle.vpg_model.specs.Sources.{system_of}
use Rattle.vpg_checking.specs.Behaviours.{Behaviour}
use Rattle.vpg_checking.specs.Texts.{AreVerticesOf}
use Rattle.vpg_family.specs.Families.{IsModelOver, SpellsFamily}
use Rattle.vpg_family.specs.declared.files.GamePaths.{GamePaths}
use Rattle.vpg_family.specs.declared.files.GamePaths.TheVariants as paths

-- the first state of the system with the part at each place
abbrev pub roots_of : Behaviour → NamedSystem → List ℕ → List (ℕ × ℕ)
roots_of behaviour system places = map (pair_for behaviour.parts system.first) places

-- The game was made of the system that the text spells. It has the system's actions, and its transitions by their
-- sources, and its vertices are the pairs of a state and a part that can be reached from the first state.
pub record IsMadeOf (diagram : NamedDiagram) (system_text : List ℕ) (game : NamedGame) (behaviour : Behaviour) :
    Type 0 where
  pub system : NamedSystem
  pub is_system : IsTextOf diagram.names system_text system
  pub features : behaviour.features ≡ game.features
  pub actions : behaviour.actions ≡ system.actions
  pub of_system : AreOfSystem (length system.actions) (system_of system) behaviour.states system.first
  pub places : List ℕ
  pub vertices : List ℕ
  pub are_vertices : AreVerticesOf behaviour.states behaviour.sets behaviour.parts (roots_of behaviour system places)
      behaviour.pairs vertices (graph_of game)

-- the game was made of the system that the text spells
abbrev pub IsMade : NamedDiagram → (system_text : List ℕ) → NamedGame → Option Behaviour → Type 0
IsMade diagram system_text game None = ⊥
IsMade diagram system_text game (Some behaviour) = IsMadeOf diagram system_text game behaviour

-- The game is the model-checking game of these texts over the diagram, of requirements of these names at these
-- vertices, and was made of this.
pub record IsModelled (diagram : NamedDiagram) (system_text requirements_text : List ℕ) (game : NamedGame)
    (names : List (List ℕ)) (vertices : List ℕ) (behaviour : Option Behaviour) : Type 0 where
  pub over : IsModelOver diagram system_text requirements_text game names vertices
  pub made : IsMade diagram system_text game behaviour

-- the texts spell a family whose game is that of these texts
pub record IsModelText (diagram_text system_text requirements_text game_text : List ℕ) (names : List (List ℕ))
    (vertices : List ℕ) (behaviour : Option Behaviour) : Type 0 where
  pub diagram : NamedDiagram
  pub game : NamedGame
  pub spelled : SpellsFamily diagram_text game_text diagram game
  pub modelled : IsModelled diagram system_text requirements_text game names vertices behaviour

-- If the paths name a system and requirements, the texts are those of their game; else there is neither.
abbrev pub AreTextsOf : GamePaths → (diagram_text system_text requirements_text game_text : List ℕ) →
    (names : List (List ℕ)) → (vertices : List ℕ) → Option Behaviour → Type 0
AreTextsOf (paths.Game path) diagram_text system_text requirements_text game_text names vertices behaviour =
    (system_text ≡ []) × (requirements_text ≡ []) × (names ≡ []) × (vertices ≡ []) × (behaviour ≡ None)
AreTextsOf (paths.Model files) diagram_text system_text requirements_text game_text names vertices behaviour =
    IsModelText diagram_text system_text requirements_text game_text names vertices behaviour
AreTextsOf (paths.System path) diagram_text system_text requirements_text game_text names vertices behaviour =
    (requirements_text ≡ []) × (game_text ≡ []) × (names ≡ []) × (vertices ≡ []) × (behaviour ≡ None)

-- so is the family itself
abbrev pub IsFamilyOf : GamePaths → NamedDiagram → (system_text requirements_text : List ℕ) → NamedGame →
    (names : List (List ℕ)) → (vertices : List ℕ) → Option Behaviour → Type 0
IsFamilyOf (paths.Game path) diagram system_text requirements_text game names vertices behaviour =
    (names ≡ []) × (vertices ≡ []) × (behaviour ≡ None)
IsFamilyOf (paths.Model files) diagram system_text requirements_text game names vertices behaviour =
    IsModelled diagram system_text requirements_text game names vertices behaviour
IsFamilyOf (paths.System path) diagram system_text requirements_text game names vertices behaviour =
    (names ≡ []) × (vertices ≡ []) × (behaviour ≡ None)
