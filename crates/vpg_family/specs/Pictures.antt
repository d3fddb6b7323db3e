-- The pictures of a family under no decisions, and the faults if there are none.
use Rattle.std.specs.Prelude.{◌≡◌, ℕ, List, [], length, replicate, Some, slice_get, ⊤}
use Rattle.std.specs.String.{string_bytes}
use Rattle.vpg_guards.specs.declared.tri.Tri.{Tri}
use Rattle.vpg_diagram.specs.DiagramText.{NamedDiagram, IsTextOf}
use Rattle.vpg_game.specs.Game.{NamedGame, SpellsGame}
use Rattle.vpg_game.specs.Grammar.{File, IsFile, file_text}
use Rattle.vpg_game.specs.SpelledNames.{Told, told_by}
use Rattle.vpg_partial.specs.KnownLaws.{HasConflictOf}
use Rattle.vpg_partial.specs.TableLaws.{IsKnownTable}
use Rattle.vpg_sides.specs.declared.verdict.Verdict.{Verdict}
use Rattle.vpg_draw.specs.GameDrawing.{no_verdict, game_drawing}
use Rattle.vpg_draw.specs.FeatureDrawing.{feature_drawing}
use Rattle.vpg_family.specs.Families.{SpellsFamily, IsFamilyFault}
use Rattle.vpg_family.specs.declared.drawing.Subject.{Subject}
use Rattle.vpg_family.specs.declared.drawing.Subject.TheVariants.{Game, Features}
use Rattle.vpg_family.specs.declared.fault.Fault.{Fault}
use Rattle.vpg_family.specs.declared.fault.Fault.TheVariants as told

-- the verdicts of vertices about which nothing is known
abbrev pub no_verdicts : ℕ → List Verdict
no_verdicts vertices = replicate vertices no_verdict

-- these are the names in the text, however it is taken for a game
abbrev pub TellsNames : List ℕ → Told → Type 0
TellsNames text names =
    (features : List (List ℕ)) (file : File) → IsFile features file → text ≡ file_text file → names ≡ told_by file

-- the game is drawn with the names in its text, under what the diagram alone makes known
pub record IsGameDrawn (diagram : NamedDiagram) (game : NamedGame) (text picture : List ℕ) : Type 0 where
  pub known : List Tri
  pub known_is : IsKnownTable diagram.lines [] known
  pub names : Told
  pub names_are : TellsNames text names
  pub picture_is : picture ≡ game_drawing diagram.names known [] names.names (no_verdicts (length game.vertices)) game

-- the diagram is drawn from its text, under what it alone makes known
pub record AreFeaturesDrawn (diagram : NamedDiagram) (text picture : List ℕ) : Type 0 where
  pub known : List Tri
  pub known_is : IsKnownTable diagram.lines [] known
  pub picture_is : picture ≡ feature_drawing diagram.names known [] text

abbrev pub IsDrawn : Subject → NamedDiagram → NamedGame → (diagram_text game_text picture : List ℕ) → Type 0
IsDrawn Game diagram game diagram_text game_text picture = IsGameDrawn diagram game game_text picture
IsDrawn Features diagram game diagram_text game_text picture = AreFeaturesDrawn diagram diagram_text picture

-- the texts spell a family, and this is the picture
pub record IsPicture (subject : Subject) (diagram_text game_text picture : List ℕ) : Type 0 where
  pub diagram : NamedDiagram
  pub game : NamedGame
  pub spelled : SpellsFamily diagram_text game_text diagram game
  pub drawn : IsDrawn subject diagram game diagram_text game_text picture

-- the fault of a diagram that contradicts itself: its root
abbrev pub TellsContradiction : NamedDiagram → Fault → Type 0
TellsContradiction diagram (told.Conflict name) =
    HasConflictOf diagram.lines [] × (slice_get diagram.names 0 ≡ Some (string_bytes name))
TellsContradiction diagram told.Memory = ⊤
TellsContradiction diagram fault = ⊥

-- The fault of two texts that have no picture: they are no family, or the diagram of one contradicts itself.
abbrev pub IsUndrawn : List ℕ → List ℕ → Fault → Type 0
IsUndrawn diagram_text game_text (told.Conflict name) =
    (diagram : NamedDiagram) × (game : NamedGame) × SpellsFamily diagram_text game_text diagram game ×
    TellsContradiction diagram (told.Conflict name)
IsUndrawn diagram_text game_text fault = IsFamilyFault diagram_text game_text fault
