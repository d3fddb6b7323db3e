-- Products that meet an aim, as a set. This project's own.
use Rattle.std.specs.Prelude.{◌≡◌, Bool, true, false, List, length, IsTrue}
use Rattle.vpg_diagram.specs.DiagramText.{NamedDiagram}
use Rattle.vpg_diagram.specs.FeatureDiagram.{feature_count}
use Rattle.vpg_diagram.specs.declared.clause.Literal.{Literal}
use Rattle.vpg_game.specs.Game.{NamedGame}
use Rattle.vpg_partial.specs.KnownLaws.{IsRemaining}
use Rattle.vpg_sets.specs.declared.node.Set.{Set}
use Rattle.vpg_sets.specs.Firsts.{IsFirstOf}
use Rattle.vpg_sets.specs.Sets.{Arena, has}
use Rattle.vpg_why.specs.Products.{Meets}
use Rattle.vpg_why.specs.declared.question.Aim.{Aim}
use Rattle.vpg_why.specs.declared.searching.Found.{Found}
use Rattle.vpg_why.specs.declared.searching.Found.TheVariants as founds

-- the products of the set are those that agree with the choices and meet the aim
pub record IsSetOfMet (game : NamedGame) (diagram : NamedDiagram) (aim : Aim) (choices : List Literal) (arena : Arena)
    (set : Set) : Type 0 where
  pub features : feature_count diagram.lines ≡ arena.features
  pub each : (p : List Bool) → length p ≡ arena.features → has arena set p ≡ true →
      IsRemaining diagram.lines choices p × Meets game aim p
  pub all : (p : List Bool) → IsRemaining diagram.lines choices p → Meets game aim p → has arena set p ≡ true

-- the first product of the set, or nothing if it is empty
abbrev pub IsFirstFound : Arena → Set → Found → Type 0
IsFirstFound arena set (founds.Product example) = IsFirstOf arena set example.features.items × IsTrue example.first
IsFirstFound arena set founds.Nothing = (p : List Bool) → has arena set p ≡ false
IsFirstFound arena set founds.Unsettled = ⊥
