-- The outlook of choices by features alone. This project's own.
use Rattle.std.specs.Prelude.{◌≡◌, ℕ, ◌<◌, List, [], length, slice_index_or}
use Rattle.vpg_guards.specs.declared.tri.Tri.{Tri}
use Rattle.vpg_guards.specs.declared.tri.Tri.TheVariants.{Unknown}
use Rattle.vpg_diagram.specs.DiagramText.{NamedDiagram}
use Rattle.vpg_diagram.specs.declared.clause.Literal.{Literal}
use Rattle.vpg_game.specs.Game.{NamedGame}
use Rattle.vpg_partial.specs.TableLaws.{IsOnlyRemaining}
use Rattle.vpg_why.specs.declared.features.Glance.{Glance}
use Rattle.vpg_why.specs.declared.features.Glance.TheVariants as glances
use Rattle.vpg_why.specs.declared.question.Aim.TheVariants as aims
use Rattle.vpg_why.specs.Products.{AgreeBelow}
use Rattle.vpg_why.specs.Reasons.{IsReason}

-- The feature is one of those in the table, and not known there. The products that agree with the choices are the same
-- in each feature before it.
pub record IsFirstOpen (diagram : NamedDiagram) (choices : List Literal) (known : List Tri) (feature : ℕ) : Type 0 where
  pub within : feature < length known
  pub unknown : slice_index_or known feature Unknown ≡ Unknown
  pub agree : AgreeBelow diagram choices feature

-- a reason why no product agrees with the choices, whatever the game, or the only one that does, or the first feature
-- that is not known
abbrev pub IsGlance : NamedDiagram → List Literal → List Tri → Glance → Type 0
IsGlance diagram choices known (glances.Lost marks) =
    (game : NamedGame) → IsReason game diagram aims.Any choices [] marks.items
IsGlance diagram choices known (glances.Met product) = IsOnlyRemaining diagram.lines choices product.items
IsGlance diagram choices known (glances.Open feature) = IsFirstOpen diagram choices known feature
