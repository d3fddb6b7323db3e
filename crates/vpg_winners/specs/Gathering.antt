-- What is learned of a literal from the set of all products that meet an aim. This project's own.
use Rattle.std.specs.Prelude.{◌≡◌, not, List, [], ◌∷◌, ◌++◌}
use Rattle.vpg_diagram.specs.DiagramText.{NamedDiagram}
use Rattle.vpg_diagram.specs.declared.clause.Literal.{Literal}
use Rattle.vpg_game.specs.Game.{NamedGame}
use Rattle.vpg_why.specs.Foreseen.{SomeMeets}
use Rattle.vpg_why.specs.Products.{NoneMeets}
use Rattle.vpg_why.specs.Suffices.{choice}
use Rattle.vpg_why.specs.declared.question.Aim.{Aim}

-- A product with the literal meets the aim, and the list of forced literals stays. Or none does, and the list has the
-- opposite literal more.
pub data IsGathered (game : NamedGame) (diagram : NamedDiagram) (aim : Aim) (choices : List Literal) (l : Literal)
    (old new : List Literal) : Type 0 where
  some : SomeMeets game diagram aim (choices ++ l ∷ []) → new ≡ old → IsGathered game diagram aim choices l old new
  none : NoneMeets game diagram aim (choices ++ l ∷ []) → new ≡ old ++ choice l.feature (not l.value) ∷ [] →
      IsGathered game diagram aim choices l old new
