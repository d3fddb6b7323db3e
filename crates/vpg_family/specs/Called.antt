-- The names that lines may give the vertices of a family: those in the game's text, and those of requirements. This
-- project's own.
use Rattle.std.specs.Prelude.{◌≡◌, ℕ, zero, suc, List, [], ◌∷◌, ◌++◌, length, if◌then◌else◌, Option, Some, None, slice_get, slice_index_or}
use Rattle.vpg_diagram.specs.DiagramText.{NamedDiagram}
use Rattle.vpg_game.specs.Game.{NamedGame, vertex_ids}
use Rattle.vpg_game.specs.Grammar.{File, IsFile, file_text}
use Rattle.vpg_game.specs.SpelledNames.{Told, told_by}
use Rattle.vpg_script.specs.Script.{is_nonempty}
use Rattle.vpg_script.specs.Calling.{Calling}
use Rattle.vpg_checking.specs.Behaviours.{Behaviour}
use Rattle.vpg_models.specs.declared.form.Form.{Form}
use Rattle.vpg_family.specs.Families.{SpellsFamily}
use Rattle.vpg_family.specs.Made.{IsFamilyOf}
use Rattle.vpg_family.specs.Pictures.{TellsNames}
use Rattle.vpg_family.specs.Sources.{AreOfFile}
use Rattle.vpg_family.specs.declared.files.GamePaths.{GamePaths}

abbrev pub one_calling : List ℕ → Option ℕ → List Calling
one_calling name None = []
one_calling name (Some identifier) = record { name = name; identifier = identifier } ∷ []

-- a name of the vertex of an identifier, if there are both
abbrev pub calling_of : List ℕ → Option ℕ → List Calling
calling_of name identifier = if is_nonempty name then one_calling name identifier else []

-- The names of the first n vertices, of games with these identifiers. An empty name is none.
abbrev pub text_callings : (names : List (List ℕ)) (ids : List ℕ) → ℕ → List Calling
text_callings names ids zero = []
text_callings names ids (suc n) = text_callings names ids n ++ calling_of (slice_index_or names n []) (slice_get ids n)

-- a requirement's name stands for the vertex at its place
abbrev pub entry_calling : List ℕ → Option (List ℕ) → Option ℕ → List Calling
entry_calling ids None vertex = []
entry_calling ids (Some name) None = []
entry_calling ids (Some name) (Some v) = calling_of name (slice_get ids v)

-- the names of the first n requirements, each at its vertex
abbrev pub entry_callings : List ℕ → (names : List (List ℕ)) (vertices : List ℕ) → ℕ → List Calling
entry_callings ids names vertices zero = []
entry_callings ids names vertices (suc n) =
    entry_callings ids names vertices n ++ entry_calling ids (slice_get names n) (slice_get vertices n)

-- the names of all vertices, and after them those of all requirements
abbrev pub callings_of : (told : List (List ℕ)) (ids : List ℕ) (names : List (List ℕ)) (vertices : List ℕ) →
    List Calling
callings_of told ids names vertices =
    text_callings told ids (length ids) ++ entry_callings ids names vertices (length names)

-- A game's text gives its vertices these names, however it is taken for a game.
abbrev pub GivesNames : List ℕ → List (List ℕ) → Type 0
GivesNames game_text told =
    (features : List (List ℕ)) (file : File) → IsFile features file → game_text ≡ file_text file →
    told ≡ (told_by file).names

-- the names that a game's text gives its vertices, and those of requirements at these vertices
pub record AreCallings (game : NamedGame) (game_text : List ℕ) (names : List (List ℕ)) (vertices : List ℕ)
    (callings : List Calling) : Type 0 where
  pub told : List (List ℕ)
  pub gives : GivesNames game_text told
  pub callings_are : callings ≡ callings_of told (vertex_ids game.vertices) names vertices

-- The family of some files, all of it of one reading of their texts. The diagram is that of its file, or the one that
-- the feature model in it means. A made game is that of the texts of the system and the requirements, and the name of
-- each requirement stands for the vertex at which the game is its model. The names and the start are told by the same
-- text of the game.
pub record IsKnown (files : GamePaths) (form : Form) (diagram : NamedDiagram) (game : NamedGame)
    (callings : List Calling) (told : Told) (behaviour : Option Behaviour) : Type 0 where
  pub model_text : List ℕ
  pub diagram_text : List ℕ
  pub system_text : List ℕ
  pub requirements_text : List ℕ
  pub game_text : List ℕ
  pub names : List (List ℕ)
  pub vertices : List ℕ
  pub meant : AreOfFile form model_text diagram_text
  pub spelled : SpellsFamily diagram_text game_text diagram game
  pub family : IsFamilyOf files diagram system_text requirements_text game names vertices behaviour
  pub called : AreCallings game game_text names vertices callings
  pub told_is : TellsNames game_text told
