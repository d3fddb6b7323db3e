-- The texts of a family, the words that name a product, and the faults that report a refusal of either.
use Rattle.std.specs.Prelude.{◌≡◌, ◌≢◌, ℕ, ⊤, Bool, List, [], map, take, Some, slice_get, All, Contains}
use Rattle.std.specs.List.{list_any}
use Rattle.std.specs.Str.{bytes_eq}
use Rattle.std.specs.String.{string_bytes}
use Rattle.vpg_features.specs.Names.{Lacks}
use Rattle.vpg_diagram.specs.DiagramText.{NamedDiagram, IsTextOf}
use Rattle.vpg_diagram.specs.FeatureDiagram.{IsProduct}
use Rattle.vpg_diagram.specs.TextFaults.{IsFirstFault}
use Rattle.vpg_diagram.specs.declared.fault.DiagramFault.TheVariants as of_diagram
use Rattle.vpg_game.specs.Game.{NamedGame, SpellsGame, graph_of}
use Rattle.vpg_game.specs.Refused.{IsRefused}
use Rattle.vpg_game.specs.declared.fault.GameFault.TheVariants as of_game
use Rattle.vpg_formula.specs.Requirements.{Entry, SpellsRequirements, marked, names_of}
use Rattle.vpg_checking.specs.Checking.{IsModelOfTexts}
use Rattle.vpg_checking.specs.Faults.{IsCheckingFault}
use Rattle.vpg_checking.specs.declared.fault.CheckingFault.TheVariants as of_model
use Rattle.vpg_hope.specs.Plain.{projection, plain_text}
use Rattle.vpg_family.specs.Limits.{IsWithin, IsOverLimit}
use Rattle.vpg_family.specs.declared.files.GamePaths.{GamePaths}
use Rattle.vpg_family.specs.declared.files.GamePaths.TheVariants as paths
use Rattle.vpg_family.specs.declared.fault.Input.TheVariants as inputs
use Rattle.vpg_family.specs.declared.fault.Fault.{Fault}
use Rattle.vpg_family.specs.declared.fault.Fault.TheVariants as told

-- the fault of a text that is no diagram: out of memory is no fault of the diagram
abbrev pub IsDiagramFault : List ℕ → Fault → Type 0
IsDiagramFault text (told.Diagram fault) = (fault ≢ of_diagram.Memory) × IsFirstFault text fault
IsDiagramFault text told.Memory = ⊤
IsDiagramFault text fault = ⊥

-- the fault of a text that is no game over these names: out of memory is no fault of the game
abbrev pub IsGameFault : List (List ℕ) → List ℕ → Fault → Type 0
IsGameFault names text (told.Game fault) = (fault ≢ of_game.Memory) × IsRefused names text fault
IsGameFault names text told.Memory = ⊤
IsGameFault names text fault = ⊥

-- the texts spell the diagram, and the game over its features
pub record SpellsFamily (diagram_text game_text : List ℕ) (diagram : NamedDiagram) (game : NamedGame) : Type 0 where
  pub diagram_spelled : IsTextOf diagram_text diagram
  pub game_spelled : SpellsGame diagram.names game_text game

-- The fault of two texts that are no family: one of the game only if the diagram has none.
abbrev pub IsFamilyFault : List ℕ → List ℕ → Fault → Type 0
IsFamilyFault diagram_text game_text (told.Game fault) =
    (diagram : NamedDiagram) × (IsTextOf diagram_text diagram × IsGameFault diagram.names game_text (told.Game fault))
IsFamilyFault diagram_text game_text fault = IsDiagramFault diagram_text fault

-- some diagram is spelled by the text
abbrev pub IsSomeDiagram : List ℕ → Type 0
IsSomeDiagram text = (diagram : NamedDiagram) × IsTextOf text diagram

-- ---- a system and its requirements in place of a game

-- the names of entries
abbrev pub entry_names : List Entry → List (List ℕ)
entry_names entries = names_of (marked entries)

-- the entry of this number has this name
pub record IsNameOfEntry (text : List ℕ) (n : ℕ) (name : List ℕ) : Type 0 where
  pub entries : List Entry
  pub are_entries : SpellsRequirements text entries
  pub name_is : slice_get (entry_names entries) n ≡ Some name

-- The fault of the texts of a system and of requirements that have no game over a diagram.
abbrev pub IsModelFault : NamedDiagram → List ℕ → List ℕ → Fault → Type 0
IsModelFault diagram system_text requirements_text (told.System fault) =
    IsCheckingFault diagram.names system_text requirements_text (of_model.System fault)
IsModelFault diagram system_text requirements_text (told.Requirements fault) =
    IsCheckingFault diagram.names system_text requirements_text (of_model.Requirements fault)
IsModelFault diagram system_text requirements_text (told.TooManyParts name) =
    (entry : ℕ) × IsCheckingFault diagram.names system_text requirements_text (of_model.TooManyParts entry) ×
    IsNameOfEntry requirements_text entry name.items
IsModelFault diagram system_text requirements_text (told.Model fault) =
    IsCheckingFault diagram.names system_text requirements_text (of_model.Game fault)
IsModelFault diagram system_text requirements_text told.Memory = ⊤
IsModelFault diagram system_text requirements_text fault = ⊥

-- the game is the model-checking game of these texts, and these are the names of the requirements and their vertices
pub record IsModelOver (diagram : NamedDiagram) (system_text requirements_text : List ℕ) (game : NamedGame)
    (names : List (List ℕ)) (vertices : List ℕ) : Type 0 where
  pub model : IsModelOfTexts diagram.names diagram.lines system_text requirements_text (graph_of game) vertices
  pub names_are : names ≡ entry_names model.entries

-- the fault of the texts of a system and of requirements that have no game over the diagram that a text spells
abbrev pub IsNoModel : (diagram_text system_text requirements_text : List ℕ) → Fault → Type 0
IsNoModel diagram_text system_text requirements_text fault = (diagram : NamedDiagram) ×
    IsTextOf diagram_text diagram × IsModelFault diagram system_text requirements_text fault

-- The fault of files that are no family, by the texts that were read by then: one that was not read is empty. A fault
-- of the game, or of the files in its place, comes only if the text of the diagram spells one.
abbrev pub IsUnread : (diagram_text game_text system_text requirements_text : List ℕ) → Fault → Type 0
IsUnread diagram_text game_text system_text requirements_text told.DiagramUnreadable =
    (diagram_text ≡ []) × (game_text ≡ []) × (system_text ≡ []) × (requirements_text ≡ [])
IsUnread diagram_text game_text system_text requirements_text (told.FeatureModel fault) =
    (diagram_text ≡ []) × (game_text ≡ []) × (system_text ≡ []) × (requirements_text ≡ [])
IsUnread diagram_text game_text system_text requirements_text told.GameUnreadable =
    IsSomeDiagram diagram_text × (game_text ≡ []) × (system_text ≡ []) × (requirements_text ≡ [])
IsUnread diagram_text game_text system_text requirements_text told.SystemUnreadable =
    IsSomeDiagram diagram_text × (game_text ≡ []) × (system_text ≡ []) × (requirements_text ≡ [])
IsUnread diagram_text game_text system_text requirements_text told.RequirementsUnreadable =
    IsSomeDiagram diagram_text × (game_text ≡ []) × (requirements_text ≡ [])
IsUnread diagram_text game_text system_text requirements_text (told.TooLarge inputs.Diagram) =
    (¬ IsWithin diagram_text) × (game_text ≡ []) × (system_text ≡ []) × (requirements_text ≡ [])
IsUnread diagram_text game_text system_text requirements_text (told.TooLarge inputs.Game) =
    IsSomeDiagram diagram_text × IsOverLimit game_text (told.TooLarge inputs.Game) × (system_text ≡ []) ×
    (requirements_text ≡ [])
IsUnread diagram_text game_text system_text requirements_text (told.TooLarge inputs.System) =
    IsSomeDiagram diagram_text × (game_text ≡ []) × (¬ IsWithin system_text) × (requirements_text ≡ [])
IsUnread diagram_text game_text system_text requirements_text (told.TooLarge inputs.Requirements) =
    IsSomeDiagram diagram_text × (game_text ≡ []) × (¬ IsWithin requirements_text)
IsUnread diagram_text game_text system_text requirements_text (told.TooManySigns at) =
    IsSomeDiagram diagram_text × IsOverLimit game_text (told.TooManySigns at) × (system_text ≡ []) ×
    (requirements_text ≡ [])
IsUnread diagram_text game_text system_text requirements_text (told.System fault) =
    IsNoModel diagram_text system_text requirements_text (told.System fault)
IsUnread diagram_text game_text system_text requirements_text (told.Requirements fault) =
    IsNoModel diagram_text system_text requirements_text (told.Requirements fault)
IsUnread diagram_text game_text system_text requirements_text (told.TooManyParts name) =
    IsNoModel diagram_text system_text requirements_text (told.TooManyParts name)
IsUnread diagram_text game_text system_text requirements_text (told.Model fault) =
    IsNoModel diagram_text system_text requirements_text (told.Model fault)
IsUnread diagram_text game_text system_text requirements_text fault = IsFamilyFault diagram_text game_text fault

-- the fault may be one of the file of a diagram
abbrev pub IsOfDiagram : Fault → Type 0
IsOfDiagram told.DiagramUnreadable = ⊤
IsOfDiagram (told.TooLarge inputs.Diagram) = ⊤
IsOfDiagram (told.FeatureModel fault) = ⊤
IsOfDiagram (told.Diagram fault) = ⊤
IsOfDiagram told.Memory = ⊤
IsOfDiagram fault = ⊥

-- the fault may be one of the files of a diagram and a game
abbrev pub IsOfGame : Fault → Type 0
IsOfGame told.SystemUnreadable = ⊥
IsOfGame told.RequirementsUnreadable = ⊥
IsOfGame (told.TooLarge inputs.System) = ⊥
IsOfGame (told.TooLarge inputs.Requirements) = ⊥
IsOfGame (told.System fault) = ⊥
IsOfGame (told.Requirements fault) = ⊥
IsOfGame (told.TooManyParts name) = ⊥
IsOfGame (told.Model fault) = ⊥
IsOfGame fault = ⊤

-- or of a diagram, a system and its requirements
abbrev pub IsOfModel : Fault → Type 0
IsOfModel told.GameUnreadable = ⊥
IsOfModel (told.TooLarge inputs.Game) = ⊥
IsOfModel (told.TooManySigns at) = ⊥
IsOfModel fault = ⊤

-- or of a diagram and a system that is drawn
abbrev pub IsOfSystem : Fault → Type 0
IsOfSystem told.GameUnreadable = ⊥
IsOfSystem told.RequirementsUnreadable = ⊥
IsOfSystem (told.TooLarge inputs.Game) = ⊥
IsOfSystem (told.TooLarge inputs.Requirements) = ⊥
IsOfSystem (told.TooManySigns at) = ⊥
IsOfSystem (told.System fault) = ⊥
IsOfSystem (told.Requirements fault) = ⊥
IsOfSystem (told.TooManyParts name) = ⊥
IsOfSystem (told.Model fault) = ⊥
IsOfSystem fault = ⊤

-- the fault may be one of the files of these paths
abbrev pub IsOfPaths : GamePaths → Fault → Type 0
IsOfPaths (paths.Game path) fault = IsOfGame fault
IsOfPaths (paths.Model files) fault = IsOfModel fault
IsOfPaths (paths.System path) fault = IsOfSystem fault

-- the fault of a conflict of this feature: its name, if there is memory for it
abbrev pub TellsConflict : List (List ℕ) → ℕ → Fault → Type 0
TellsConflict names f (told.Conflict name) = slice_get names f ≡ Some (string_bytes name)
TellsConflict names f told.Memory = ⊤
TellsConflict names f fault = ⊥

-- ---- the words that name a product

-- each word is one of the names
abbrev pub AreKnown : List (List ℕ) → List (List ℕ) → Type 0
AreKnown names words = All (Contains names) words

-- the set that the words name: for each name whether it is one of the words
abbrev pub set_of : List (List ℕ) → List (List ℕ) → List Bool
set_of names words = map (λ name. list_any (bytes_eq name) words) names

-- the words name features alone, and these ones
pub record IsNamedSet (names words : List (List ℕ)) (set : List Bool) : Type 0 where
  pub known : AreKnown names words
  pub set_is : set ≡ set_of names words

-- the name is the first of the words that names no feature
abbrev pub IsFirstUnknown : List (List ℕ) → List (List ℕ) → List ℕ → Type 0
IsFirstUnknown names words name =
    (n : ℕ) × (slice_get words n ≡ Some name) × AreKnown names (take n words) × Lacks names name

-- the fault of a word that names no feature: the word; or out of memory
abbrev pub IsUnknown : List (List ℕ) → List ℕ → Fault → Type 0
IsUnknown names word (told.UnknownFeature name) = (string_bytes name ≡ word) × Lacks names word
IsUnknown names word told.Memory = ⊤
IsUnknown names word fault = ⊥

-- the fault of words if one of them names no feature: the first such word; or out of memory
abbrev pub TellsUnknown : List (List ℕ) → List (List ℕ) → Fault → Type 0
TellsUnknown names words (told.UnknownFeature name) = IsFirstUnknown names words (string_bytes name)
TellsUnknown names words told.Memory = ⊤
TellsUnknown names words fault = ⊥

-- the words name the features of a product, and the text is that of its game
pub record IsProjected (diagram : NamedDiagram) (game : NamedGame) (words : List (List ℕ))
    (text : List ℕ) : Type 0 where
  pub known : AreKnown diagram.names words
  pub product : IsProduct diagram.lines (set_of diagram.names words)
  pub text_is : text ≡ plain_text (projection (set_of diagram.names words) game)

-- The fault of words that name no product. Their features are no product only if each word names a feature.
abbrev pub IsNotProjected : NamedDiagram → List (List ℕ) → Fault → Type 0
IsNotProjected diagram words told.NotAProduct =
    AreKnown diagram.names words × (¬ IsProduct diagram.lines (set_of diagram.names words))
IsNotProjected diagram words fault = TellsUnknown diagram.names words fault
