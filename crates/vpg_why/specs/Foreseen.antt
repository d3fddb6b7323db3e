-- What one more choice would bring at a vertex, as the searches of a line find it. This project's own.
use Rattle.std.specs.Prelude.{◌≡◌, ◌≢◌, ℕ, Bool, List, Contains}
use Rattle.vpg_diagram.specs.DiagramText.{NamedDiagram}
use Rattle.vpg_diagram.specs.declared.clause.Literal.{Literal}
use Rattle.vpg_game.specs.Game.{NamedGame}
use Rattle.vpg_sides.specs.declared.which.Which.{Which}
use Rattle.vpg_sides.specs.declared.which.Which.TheVariants.{Hopeful, Dual}
use Rattle.vpg_partial.specs.KnownLaws.{HasConflictOf, IsRemaining}
use Rattle.vpg_partial.specs.TableLaws.{AreChoicesOf}
use Rattle.vpg_why.specs.declared.foreseeing.Findings.{Findings}
use Rattle.vpg_why.specs.declared.foreseeing.Foresight.{Foresight}
use Rattle.vpg_why.specs.declared.foreseeing.Foresight.TheVariants as foresights
use Rattle.vpg_why.specs.declared.foreseeing.Side.{Side}
use Rattle.vpg_why.specs.declared.question.Aim.{Aim}
use Rattle.vpg_why.specs.declared.question.Aim.TheVariants as aims
use Rattle.vpg_why.specs.declared.question.Limits.{Limits}
use Rattle.vpg_why.specs.declared.question.Question.TheVariants as asks
use Rattle.vpg_why.specs.declared.question.Shown.TheVariants as shown
use Rattle.vpg_why.specs.Found.{AllMeet}
use Rattle.vpg_why.specs.Offered.{IsShown}
use Rattle.vpg_why.specs.Products.{IsForced, Meets, NoneMeets}
use Rattle.vpg_why.specs.Suffices.{IsSettled}

-- some product agrees with the choices and meets the aim
abbrev pub SomeMeets : NamedGame → NamedDiagram → Aim → List Literal → Type 0
SomeMeets game diagram aim choices =
    (set : List Bool) × IsRemaining diagram.lines choices set × Meets game aim set

-- Each of the products agrees with the choices and meets the aim. Each of the literals is of a feature of the diagram,
-- and each product has it that agrees with the choices and meets the aim.
pub record AreFindings (game : NamedGame) (diagram : NamedDiagram) (aim : Aim) (choices : List Literal)
    (findings : Findings) : Type 0 where
  pub met : AllMeet game diagram aim choices findings.met.items
  pub named : AreChoicesOf diagram.lines findings.forced.items
  pub forced : (l : Literal) → Contains findings.forced.items l → IsForced game diagram aim choices l

-- The choices make the verdict, or do not, as shown; and some product that agrees with them is won by the verdict's
-- loser, or none is. Both are shown if the limits leave room.
pub record IsSide (limits : Limits) (game : NamedGame) (diagram : NamedDiagram) (vertex : ℕ) (choices : List Literal)
    (which : Which) (side : Side) : Type 0 where
  pub verdict : IsShown limits.rounds game diagram vertex choices which side.verdict
  pub yes : side.met ≡ shown.Yes → SomeMeets game diagram (aims.Won which vertex) choices
  pub no : side.met ≡ shown.No → NoneMeets game diagram (aims.Won which vertex) choices
  pub settled : IsSettled game diagram limits (asks.Lost (aims.Won which vertex)) choices →
      side.met ≢ shown.Unsettled

-- the choices contradict one another, or these are both sides
abbrev pub IsForeseen : Limits → NamedGame → NamedDiagram → ℕ → List Literal → Foresight → Type 0
IsForeseen limits game diagram vertex choices foresights.Conflict = HasConflictOf diagram.lines choices
IsForeseen limits game diagram vertex choices (foresights.Sides even odd) =
    ¬ (HasConflictOf diagram.lines choices) × IsSide limits game diagram vertex choices Hopeful even ×
    IsSide limits game diagram vertex choices Dual odd
