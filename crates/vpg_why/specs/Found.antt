-- The results of a search for a product.
use Rattle.std.specs.Prelude.{ℕ, ◌≡◌, ◌<◌, ◌≤◌, ◌+◌, ⊤, Bool, List, slice_index_or, IsTrue}
use Rattle.std.specs.List.{AllByRecursion}
use Rattle.vpg_guards.specs.declared.tri.Tri.{Tri}
use Rattle.vpg_guards.specs.declared.tri.Tri.TheVariants.{Unknown}
use Rattle.vpg_diagram.specs.DiagramText.{NamedDiagram}
use Rattle.vpg_diagram.specs.FeatureDiagram.{feature_count}
use Rattle.vpg_diagram.specs.declared.clause.Literal.{Literal}
use Rattle.vpg_game.specs.Game.{NamedGame}
use Rattle.vpg_partial.specs.KnownLaws.{IsRemaining}
use Rattle.vpg_partial.specs.TableLaws.{IsKnownTable, IsOnlyRemaining}
use Rattle.vpg_partial.specs.declared.decision.Decision.{Decision}
use Rattle.vpg_why.specs.declared.forcing.Demand.{Demand}
use Rattle.vpg_why.specs.declared.forcing.Demand.TheVariants as demands
use Rattle.vpg_why.specs.declared.question.Aim.{Aim}
use Rattle.vpg_why.specs.declared.question.Question.TheVariants as asks
use Rattle.vpg_why.specs.declared.searching.Example.{Example}
use Rattle.vpg_why.specs.declared.searching.Found.{Found}
use Rattle.vpg_why.specs.declared.searching.Found.TheVariants as founds
use Rattle.vpg_why.specs.declared.searching.Outlook.{Outlook}
use Rattle.vpg_why.specs.declared.searching.Outlook.TheVariants as outlooks
use Rattle.vpg_why.specs.declared.telling.WhyLost.{WhyLost}
use Rattle.vpg_why.specs.declared.telling.WhyLost.TheVariants as whys
use Rattle.vpg_why.specs.Explained.{choices, Explains}
use Rattle.vpg_why.specs.Products.{NoneMeets, Meets, IsFirst, AgreeBelow, AreNeeds}
use Rattle.vpg_why.specs.Suffices.{Suffice, AreOpenUpTo, most_trials}

-- the feature is the first that the choices don't make known
pub record IsOpen (diagram : NamedDiagram) (choices : List Literal) (feature : ℕ) : Type 0 where
  pub within : feature < feature_count diagram.lines
  pub agree : AgreeBelow diagram choices feature
  pub known : List Tri
  pub is_table : IsKnownTable diagram.lines choices known
  pub unknown : slice_index_or known feature Unknown ≡ Unknown
  pub below : (f : ℕ) → f < feature → slice_index_or known f Unknown ≡ Unknown → ⊥

-- The outlook of choices on an aim before any split. Either no product that agrees with them meets it, or this is the
-- only one that agrees, and does. Or this is the first feature that is not known, or a limit was met.
abbrev pub IsOutlook : NamedGame → NamedDiagram → Aim → List Literal → Outlook → Type 0
IsOutlook game diagram aim choices outlooks.Lost = NoneMeets game diagram aim choices
IsOutlook game diagram aim choices (outlooks.Met product) = IsOnlyRemaining diagram.lines choices product.items × Meets game aim product.items
IsOutlook game diagram aim choices (outlooks.Open feature) = IsOpen diagram choices feature
IsOutlook game diagram aim choices outlooks.Unsettled = ⊤

-- an outlook that met no limit
abbrev pub IsOutlookExact : Outlook → Type 0
IsOutlookExact outlooks.Lost = ⊤
IsOutlookExact (outlooks.Met product) = ⊤
IsOutlookExact (outlooks.Open feature) = ⊤
IsOutlookExact outlooks.Unsettled = ⊥

-- A search from these choices, of this depth and with this many trials, comes to its end: both suffice for the features
-- that are open.
pub record HasRoom (diagram : NamedDiagram) (choices : List Literal) (depth trials : ℕ) : Type 0 where
  pub most : ℕ
  pub are_open : AreOpenUpTo most diagram.lines choices
  pub deep : most < depth
  pub enough : most_trials (most + 1) ≤ trials

-- A product that agrees with the choices and meets the aim; it is the first one, if that is shown.
pub record IsFoundProduct (game : NamedGame) (diagram : NamedDiagram) (aim : Aim) (choices : List Literal) (set : List Bool) (first : Bool) : Type 0 where
  pub remaining : IsRemaining diagram.lines choices set
  pub meets : Meets game aim set
  pub is_first : IsTrue first → IsFirst game diagram aim choices set

-- a product that agrees with the choices and meets the aim; or there is none
abbrev pub IsFound : NamedGame → NamedDiagram → Aim → List Literal → Found → Type 0
IsFound game diagram aim choices (founds.Product example) = IsFoundProduct game diagram aim choices example.features.items example.first
IsFound game diagram aim choices founds.Nothing = NoneMeets game diagram aim choices
IsFound game diagram aim choices founds.Unsettled = ⊤

-- any product that agrees with the choices and meets the aim; or there is none
abbrev pub IsSought : NamedGame → NamedDiagram → Aim → List Literal → Found → Type 0
IsSought game diagram aim choices (founds.Product example) =
    IsRemaining diagram.lines choices example.features.items × Meets game aim example.features.items
IsSought game diagram aim choices founds.Nothing = NoneMeets game diagram aim choices
IsSought game diagram aim choices founds.Unsettled = ⊤

-- each of these products agrees with the choices and meets the aim
abbrev pub AllMeet : NamedGame → NamedDiagram → Aim → List Literal → List Example → Type 0
AllMeet game diagram aim choices found = AllByRecursion
    (λ e. IsRemaining diagram.lines choices e.features.items × Meets game aim e.features.items) found

-- no limit was met
abbrev pub IsFoundExact : Found → Type 0
IsFoundExact (founds.Product example) = IsTrue example.first
IsFoundExact founds.Nothing = ⊤
IsFoundExact founds.Unsettled = ⊥

-- some decisions that leave no product that meets the aim, or a product that does
abbrev pub IsWhyLost : NamedGame → NamedDiagram → Aim → List Decision → WhyLost → Type 0
IsWhyLost game diagram aim decisions (whys.Because found) = Explains (Suffice game diagram (asks.Lost aim)) decisions found.decisions.items found.exact
IsWhyLost game diagram aim decisions (whys.Unless example) = IsFoundProduct game diagram aim (choices decisions) example.features.items example.first
IsWhyLost game diagram aim decisions whys.Unsettled = ⊤

-- one of both was shown; and a product is the first
abbrev pub IsWhyLostShown : WhyLost → Type 0
IsWhyLostShown (whys.Because found) = ⊤
IsWhyLostShown (whys.Unless example) = IsTrue example.first
IsWhyLostShown whys.Unsettled = ⊥

-- no limit was met in the search for the reason
abbrev pub IsWhyLostExact : WhyLost → Type 0
IsWhyLostExact (whys.Because found) = IsTrue found.exact
IsWhyLostExact (whys.Unless example) = IsTrue example.first
IsWhyLostExact whys.Unsettled = ⊥

-- the literals of each product that agrees with the choices and meets the aim, if there is one
abbrev pub AreFoundNeeds : NamedGame → NamedDiagram → Aim → List Literal → Demand → Type 0
AreFoundNeeds game diagram aim choices (demands.These found) =
    ((set : List Bool) × IsRemaining diagram.lines choices set × Meets game aim set) × AreNeeds game diagram aim choices found.literals.items found.exact
AreFoundNeeds game diagram aim choices demands.Nothing = NoneMeets game diagram aim choices
AreFoundNeeds game diagram aim choices demands.Unsettled = ⊤

-- no limit was met in listing the needs
abbrev pub AreNeedsExact : Demand → Type 0
AreNeedsExact (demands.These found) = IsTrue found.exact
AreNeedsExact demands.Nothing = ⊤
AreNeedsExact demands.Unsettled = ⊥
