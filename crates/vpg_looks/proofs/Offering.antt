-- What one more choice makes of a vertex.
use Rattle.std.proofs.Common.{◌≡◌, ◌≢◌, ℕ, ◌<◌, List, [], length, refl}
use Rattle.vpg_diagram.specs.declared.clause.Literal.{Literal}
use Rattle.vpg_game.specs.Game.{NamedGame, IsGame}
use Rattle.vpg_diagram.specs.DiagramText.{NamedDiagram}
use Rattle.vpg_sides.specs.declared.which.Which.{Which}
use Rattle.vpg_sides.specs.declared.which.Which.TheVariants.{Hopeful, Dual}
use Rattle.vpg_texts.specs.Scene.{scene_of}
use Rattle.vpg_why.specs.Foreseen.{IsForeseen, SomeMeets}
use Rattle.vpg_why.specs.Offered.{IsShown}
use Rattle.vpg_why.specs.Products.{NoneMeets}
use Rattle.vpg_why.specs.declared.foreseeing.Foresight.{Foresight}
use Rattle.vpg_why.specs.declared.foreseeing.Foresight.TheVariants as foresights
use Rattle.vpg_why.specs.Suffices.{IsSettled}
use Rattle.vpg_why.specs.declared.question.Aim.TheVariants as aims
use Rattle.vpg_why.specs.declared.question.Limits.{Limits}
use Rattle.vpg_why.specs.declared.question.Question.TheVariants as asks
use Rattle.vpg_why.specs.declared.question.Shown.{Shown}
use Rattle.vpg_why.specs.declared.question.Shown.TheVariants as shown
use Rattle.vpg_looks.specs.declared.offers.Prospect.{Prospect}
use Rattle.vpg_winners.proofs.OneWins.{even_wins, odd_wins}
use Rattle.vpg_looks.specs.Offers.{IsFact, IsVerdictShown, IsProspect, fact_of, prospect_by}

module _ (game : NamedGame) (diagram : NamedDiagram) (limits : Limits) (vertex : ℕ) (chosen : List Literal) where
  abbrev Is : Prospect → Type 0
  Is prospect = IsProspect (scene_of [] game diagram) limits vertex chosen prospect

  shown_in : (which : Which) (answer : Shown) → IsShown limits.rounds game diagram vertex chosen which answer → IsVerdictShown (scene_of [] game diagram) limits vertex chosen which answer
  shown_in which answer so = record { yes = so.yes; no = so.no; settled = so.settled }

  -- the winner, by whether each player wins in some product
  module _ (is : IsGame game) (inside : vertex < length game.vertices) where
    abbrev Some_meets : Which → Type 0
    Some_meets which = SomeMeets game diagram (aims.Won which vertex) chosen

    abbrev None_meets : Which → Type 0
    None_meets which = NoneMeets game diagram (aims.Won which vertex) chosen

    abbrev Settled : Which → Type 0
    Settled which = IsSettled game diagram limits (asks.Lost (aims.Won which vertex)) chosen

    fact_in : (won lost : Shown) → (won ≡ shown.Yes → Some_meets Hopeful) → (won ≡ shown.No → None_meets Hopeful) → (Settled Hopeful → won ≢ shown.Unsettled) →
        (lost ≡ shown.Yes → Some_meets Dual) → (lost ≡ shown.No → None_meets Dual) → (Settled Dual → lost ≢ shown.Unsettled) → IsFact (scene_of [] game diagram) limits vertex chosen (fact_of won lost)
    fact_in shown.Yes shown.Yes wy wn ws ly ln ls = (wy refl, ly refl)
    fact_in shown.Yes shown.No wy wn ws ly ln ls = let w = wy refl in ((w.0, w.1), even_wins game diagram chosen vertex is inside (ln refl))
    fact_in shown.No shown.Yes wy wn ws ly ln ls = let l = ly refl in ((l.0, l.1), odd_wins game diagram chosen vertex is inside (wn refl))
    fact_in shown.No shown.No wy wn ws ly ln ls = λ set remains. ln refl set remains (odd_wins game diagram chosen vertex is inside (wn refl) set remains)
    fact_in shown.Yes shown.Unsettled wy wn ws ly ln ls = λ both. ls (both.1.0, both.1.1) refl
    fact_in shown.No shown.Unsettled wy wn ws ly ln ls = λ both. ls (both.1.0, both.1.1) refl
    fact_in shown.Unsettled lost wy wn ws ly ln ls = λ both. ws (both.0.0, both.0.1) refl

    pub foreseen_in : (foresight : Foresight) → IsForeseen limits game diagram vertex chosen foresight → Is (prospect_by foresight)
    foreseen_in foresights.Conflict so = so
    foreseen_in (foresights.Sides even odd) so = (
      so.0,
      shown_in Hopeful even.verdict so.1.verdict,
      shown_in Dual odd.verdict so.2.verdict,
      fact_in even.met odd.met so.1.yes so.1.no so.1.settled so.2.yes so.2.no so.2.settled,
    )
