-- Easier aims: any product will do where each one that is left meets the aim. This project's own.
use Rattle.std.specs.Prelude.{◌≡◌, Bool, List}
use Rattle.vpg_diagram.specs.DiagramText.{NamedDiagram}
use Rattle.vpg_diagram.specs.declared.clause.Literal.{Literal}
use Rattle.vpg_game.specs.Game.{NamedGame}
use Rattle.vpg_partial.specs.KnownLaws.{IsRemaining}
use Rattle.vpg_why.specs.declared.question.Aim.{Aim}
use Rattle.vpg_why.specs.declared.question.Aim.TheVariants as aims
use Rattle.vpg_why.specs.Products.{Meets}

-- each product that agrees with the choices meets the aim
abbrev pub EachMeets : NamedGame → NamedDiagram → List Literal → Aim → Type 0
EachMeets game diagram choices aim = (set : List Bool) → IsRemaining diagram.lines choices set → Meets game aim set

-- The second aim is any product, and each that agrees with the choices meets the first aim; or both are the same.
abbrev pub IsEased : NamedGame → NamedDiagram → List Literal → (aim eased : Aim) → Type 0
IsEased game diagram choices aim aims.Any = EachMeets game diagram choices aim
IsEased game diagram choices aim (aims.Won which vertex) = aim ≡ aims.Won which vertex
