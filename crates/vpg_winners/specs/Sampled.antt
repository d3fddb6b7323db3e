-- Some of the products that are left, and who wins in them. This project's own.
use Rattle.std.specs.Prelude.{◌≡◌, ℕ, zero, suc, Bool, true, false, List, [], ◌∷◌, ◌++◌, length, slice_index_or}
use Rattle.std.specs.List.{AllByRecursion}
use Rattle.vpg_diagram.specs.DiagramText.{NamedDiagram}
use Rattle.vpg_diagram.specs.FeatureDiagram.{feature_count}
use Rattle.vpg_diagram.specs.declared.clause.Literal.{Literal}
use Rattle.vpg_game.specs.Game.{NamedGame}
use Rattle.vpg_partial.specs.KnownLaws.{IsRemaining}
use Rattle.vpg_sets.specs.declared.node.Set.{Set}
use Rattle.vpg_sets.specs.Sets.{Arena, has}
use Rattle.vpg_why.specs.Found.{IsFoundProduct}
use Rattle.vpg_why.specs.Products.{ComesBefore, Meets}
use Rattle.vpg_why.specs.Suffices.{choice}
use Rattle.vpg_why.specs.declared.question.Aim.{Aim}
use Rattle.vpg_why.specs.declared.searching.Example.{Example}

-- each product of the set agrees with the choices and meets the aim
pub record IsSetOfSome (game : NamedGame) (diagram : NamedDiagram) (aim : Aim) (choices : List Literal) (arena : Arena)
    (set : Set) : Type 0 where
  pub features : feature_count diagram.lines ≡ arena.features
  pub each : (p : List Bool) → length p ≡ arena.features → has arena set p ≡ true →
      IsRemaining diagram.lines choices p × Meets game aim p

-- no product that agrees with the choices comes before this one
abbrev pub IsFirstLeft : NamedDiagram → List Literal → List Bool → Type 0
IsFirstLeft diagram choices first =
    (other : List Bool) → IsRemaining diagram.lines choices other → ComesBefore other first → ⊥

-- a product that agrees with the choices, and none that does comes before it
pub record IsFirstOfAll (diagram : NamedDiagram) (choices : List Literal) (product : List Bool) : Type 0 where
  pub remaining : IsRemaining diagram.lines choices product
  pub first : IsFirstLeft diagram choices product

-- each of this many first features, in or out, as a product has it
abbrev pub choices_of : List Bool → ℕ → List Literal
choices_of product zero = []
choices_of product (suc n) = choices_of product n ++ choice n (slice_index_or product n false) ∷ []

-- Each of these products agrees with the choices and meets the aim. It is the first one that does, if that is shown.
abbrev pub AreFound : NamedGame → NamedDiagram → Aim → List Literal → List Example → Type 0
AreFound game diagram aim choices found =
    AllByRecursion (λ e. IsFoundProduct game diagram aim choices e.features.items e.first) found
