-- The counts of a family by its texts. This project's own.
use Rattle.std.specs.Prelude.{◌≡◌, ℕ, List, ◌++◌}
use Rattle.vpg_diagram.specs.DiagramText.{NamedDiagram}
use Rattle.vpg_game.specs.Game.{NamedGame}
use Rattle.vpg_family.specs.Counts.{counts_text, roots_text}
use Rattle.vpg_family.specs.Families.{SpellsFamily}

-- the texts spell a family, and this is the line that counts it, with a line after it for each requirement
pub record IsChecked (diagram_text game_text : List ℕ) (names : List (List ℕ)) (vertices text : List ℕ) : Type 0 where
  pub diagram : NamedDiagram
  pub game : NamedGame
  pub spelled : SpellsFamily diagram_text game_text diagram game
  pub text_is : text ≡ counts_text game ++ roots_text names vertices
