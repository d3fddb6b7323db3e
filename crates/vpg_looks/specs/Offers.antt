-- The verdicts of a vertex after each further decision. This project's own.
use Rattle.std.specs.Prelude.{◌≡◌, ◌≢◌, ℕ, zero, suc, Bool, true, false, List, [], ◌∷◌, ◌++◌, map, slice_index_or}
use Rattle.std.specs.List.{AllByRecursion}
use Rattle.vpg_guards.specs.declared.tri.Tri.{Tri}
use Rattle.vpg_guards.specs.declared.tri.Tri.TheVariants.{Unknown}
use Rattle.vpg_diagram.specs.DiagramText.{NamedDiagram}
use Rattle.vpg_diagram.specs.declared.clause.Literal.{Literal}
use Rattle.vpg_game.specs.Game.{NamedGame}
use Rattle.vpg_sides.specs.declared.player.Player.{Player}
use Rattle.vpg_sides.specs.declared.player.Player.TheVariants.{Even, Odd}
use Rattle.vpg_sides.specs.declared.which.Which.{Which}
use Rattle.vpg_sides.specs.declared.which.Which.TheVariants.{Hopeful, Dual}
use Rattle.vpg_partial.specs.KnownLaws.{HasConflictOf, IsRemaining}
use Rattle.vpg_partial.specs.declared.decision.Decision.{Decision}
use Rattle.vpg_texts.specs.Scene.{Scene}
use Rattle.vpg_texts.specs.Text.{is_value}
use Rattle.vpg_why.specs.Explained.{choices}
use Rattle.vpg_why.specs.Suffices.{SufficeIn, choice}
use Rattle.vpg_why.specs.Foreseen.{AreFindings}
use Rattle.vpg_why.specs.Spared.{AreBothSpared}
use Rattle.vpg_why.specs.declared.foreseeing.Foresight.{Foresight}
use Rattle.vpg_why.specs.declared.foreseeing.Foresight.TheVariants as foresights
use Rattle.vpg_why.specs.declared.question.Aim.TheVariants as aims
use Rattle.vpg_why.specs.declared.question.Limits.{Limits}
use Rattle.vpg_why.specs.declared.question.Question.TheVariants as asks
use Rattle.vpg_why.specs.declared.question.Shown.{Shown}
use Rattle.vpg_why.specs.declared.question.Shown.TheVariants as shown
use Rattle.vpg_winners.specs.Decided.{HasRemaining, NoneRemains, WinsEach, WinsProduct}
use Rattle.vpg_looks.specs.declared.offers.Fact.{Fact}
use Rattle.vpg_looks.specs.declared.offers.Fact.TheVariants as facts
use Rattle.vpg_looks.specs.declared.offers.Shared.{Shared}
use Rattle.vpg_looks.specs.declared.offers.Offered.{Offered}
use Rattle.vpg_looks.specs.declared.offers.Prospect.{Prospect}
use Rattle.vpg_looks.specs.declared.offers.Prospect.TheVariants as prospects
use Rattle.vpg_looks.specs.Room.{BothSearchesEnd, RoundsSettle}

-- Whether these choices alone are the verdict's reason, if it was shown; and it was shown if the limits leave room.
pub record IsVerdictShown (scene : Scene) (limits : Limits) (vertex : ℕ) (choices : List Literal) (which : Which)
    (answer : Shown) : Type 0 where
  pub yes : answer ≡ shown.Yes → SufficeIn scene.game scene.lines (asks.Verdict which vertex) choices
  pub no : answer ≡ shown.No → SufficeIn scene.game scene.lines (asks.Verdict which vertex) choices → ⊥
  pub settled : RoundsSettle scene limits.rounds which choices → answer ≢ shown.Unsettled

-- some product agrees with the choices, and the player wins from the vertex in it
abbrev pub WinsSome : Scene → List Literal → Player → (vertex : ℕ) → Type 0
WinsSome scene choices player vertex =
    (set : List Bool) × IsRemaining scene.lines choices set × WinsProduct scene.game player vertex set

-- Even wins from the vertex in each product that agrees with the choices, or Odd does, and there is one; or each of
-- them wins in some; or no product agrees; or the limits leave no room.
abbrev pub IsFact : Scene → Limits → (vertex : ℕ) → List Literal → Fact → Type 0
IsFact scene limits vertex choices facts.Won =
    HasRemaining scene.lines choices × WinsEach scene.game scene.lines choices Even vertex
IsFact scene limits vertex choices facts.Lost =
    HasRemaining scene.lines choices × WinsEach scene.game scene.lines choices Odd vertex
IsFact scene limits vertex choices facts.Mixed = WinsSome scene choices Even vertex × WinsSome scene choices Odd vertex
IsFact scene limits vertex choices facts.Empty = NoneRemains scene.lines choices
IsFact scene limits vertex choices facts.Unsettled = ¬ (BothSearchesEnd scene limits vertex choices)

-- the choices contradict one another, or give these verdicts, and this player wins
abbrev pub IsProspect : Scene → Limits → (vertex : ℕ) → List Literal → Prospect → Type 0
IsProspect scene limits vertex choices prospects.Conflict = HasConflictOf scene.lines choices
IsProspect scene limits vertex choices (prospects.Left hopeless sure fact) =
    ¬ (HasConflictOf scene.lines choices) × IsVerdictShown scene limits vertex choices Hopeful hopeless ×
    IsVerdictShown scene limits vertex choices Dual sure × IsFact scene limits vertex choices fact

-- the prospect of the page's decisions together with this choice, at the vertex
abbrev pub IsOffered : Scene → Limits → (vertex : ℕ) → List Decision → Offered → Type 0
IsOffered scene limits vertex decisions offered =
    IsProspect scene limits vertex (choices decisions ++ offered.choice ∷ []) offered.prospect

-- both choices of a feature that is open
abbrev pub both_if : Bool → (feature : ℕ) → List Literal
both_if true feature = choice feature true ∷ choice feature false ∷ []
both_if false feature = []

-- those of each of the first n features that isn't known
abbrev pub open_choices : List Tri → ℕ → List Literal
open_choices known zero = []
open_choices known (suc n) = open_choices known n ++ both_if (is_value (slice_index_or known n Unknown) Unknown) n

-- The choices of the first n features that are open, in and then out, with the prospect of each at the vertex.
pub record AreOffers (scene : Scene) (limits : Limits) (vertex : ℕ) (decisions : List Decision) (known : List Tri)
    (n : ℕ) (listed : List Offered) : Type 0 where
  pub each : map (λ o. o.choice) listed ≡ open_choices known n
  pub offered : AllByRecursion (IsOffered scene limits vertex decisions) listed

-- ---- how they are found

-- what the offers of a line have found, of products that Even wins from the vertex, and of those that Odd wins, and the
-- choices that are spared
pub record IsShared (game : NamedGame) (diagram : NamedDiagram) (vertex : ℕ) (choices : List Literal) (line : Shared) :
    Type 0 where
  pub won : AreFindings game diagram (aims.Won Hopeful vertex) choices line.won
  pub lost : AreFindings game diagram (aims.Won Dual vertex) choices line.lost
  pub spared : AreBothSpared game diagram vertex choices line.spared

-- the winner, by whether Even wins in some product, and whether Odd does
abbrev pub fact_of : (won lost : Shown) → Fact
fact_of shown.Yes shown.Yes = facts.Mixed
fact_of shown.Yes shown.No = facts.Won
fact_of shown.No shown.Yes = facts.Lost
fact_of shown.No shown.No = facts.Empty
fact_of _ _ = facts.Unsettled

-- the prospect, by what one more decision brings
abbrev pub prospect_by : Foresight → Prospect
prospect_by foresights.Conflict = prospects.Conflict
prospect_by (foresights.Sides even odd) = prospects.Left even.verdict odd.verdict (fact_of even.met odd.met)
