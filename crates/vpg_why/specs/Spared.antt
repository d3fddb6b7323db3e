-- Choices that do not make a verdict. This project's own.
use Rattle.std.specs.Prelude.{ℕ, List, [], ◌∷◌, ◌++◌, Contains}
use Rattle.vpg_diagram.specs.DiagramText.{NamedDiagram}
use Rattle.vpg_diagram.specs.declared.clause.Literal.{Literal}
use Rattle.vpg_game.specs.Game.{NamedGame}
use Rattle.vpg_sides.specs.declared.which.Which.{Which}
use Rattle.vpg_sides.specs.declared.which.Which.TheVariants.{Hopeful, Dual}
use Rattle.vpg_why.specs.declared.question.Question.TheVariants as asks
use Rattle.vpg_why.specs.declared.sparing.Spared.{Spared}
use Rattle.vpg_why.specs.Suffices.{Suffice}

-- with any one of these literals more, the choices do not make the verdict
abbrev pub AreSpared : NamedGame → NamedDiagram → Which → (vertex : ℕ) → (choices spared : List Literal) → Type 0
AreSpared game diagram which vertex choices spared =
    (l : Literal) → Contains spared l → Suffice game diagram (asks.Verdict which vertex) (choices ++ l ∷ []) → ⊥

-- With any one of the first literals more, the choices do not make the vertex hopeless. With any one of the others they
-- do not make it sure.
pub record AreBothSpared (game : NamedGame) (diagram : NamedDiagram) (vertex : ℕ) (choices : List Literal)
    (spared : Spared) : Type 0 where
  pub possible : AreSpared game diagram Hopeful vertex choices spared.possible.items
  pub unsure : AreSpared game diagram Dual vertex choices spared.unsure.items
