-- What is found on the part that decides a vertex holds of the whole game.
use Rattle.std.proofs.Common.{◌≡◌, ℕ, ◌<◌, Bool, List, [], ◌∷◌, length, Option, Some, None, IfSome, subst, sym}
use Rattle.vpg_diagram.specs.DiagramText.{NamedDiagram}
use Rattle.vpg_diagram.specs.declared.clause.Literal.{Literal}
use Rattle.vpg_game.specs.Game.{NamedGame, graph_of}
use Rattle.vpg_measure.specs.Orders.{OrderView}
use Rattle.vpg_open.specs.OpenVertices.{IsLeft}
use Rattle.vpg_open.specs.ReachedGames.{HasWinnersOf}
use Rattle.vpg_open.specs.declared.reaching.Reached.{Reached}
use Rattle.vpg_partial.specs.KnownLaws.{IsRemaining}
use Rattle.vpg_partial.specs.declared.decision.Decision.{Decision}
use Rattle.vpg_sides.specs.declared.player.Player.{Player}
use Rattle.vpg_sides.specs.declared.player.Player.TheVariants.{Even, Odd}
use Rattle.vpg_sides.specs.declared.which.Which.{Which}
use Rattle.vpg_why.specs.Explained.{choices}
use Rattle.vpg_why.specs.Foreseen.{AreFindings}
use Rattle.vpg_why.specs.Found.{AllMeet, AreFoundNeeds, IsFound}
use Rattle.vpg_why.specs.Products.{Meets, loser}
use Rattle.vpg_why.specs.declared.forcing.Demand.{Demand}
use Rattle.vpg_why.specs.declared.forcing.Demand.TheVariants as demands
use Rattle.vpg_why.specs.declared.foreseeing.Findings.{Findings}
use Rattle.vpg_why.specs.declared.question.Aim.TheVariants as aims
use Rattle.vpg_why.specs.declared.searching.Example.{Example}
use Rattle.vpg_why.specs.declared.searching.Found.{Found}
use Rattle.vpg_why.specs.declared.searching.Found.TheVariants as founds
use Rattle.vpg_winners.specs.Decided.{IsDecidedAs, IsWonProduct}
use Rattle.vpg_winners.specs.OpenParts.{IsPartOf, IsPartOrder}
use Rattle.vpg_winners.specs.declared.deciding.Decided.{Decided}
use Rattle.vpg_winners.specs.declared.deciding.Decided.TheVariants as decides

module _ (order : OrderView) (vertex : ℕ) (part : NamedGame) (place : ℕ) (is : IsPartOf order vertex part place) where
  abbrev own : List Literal
  own = choices order.decisions

  meets_there : (which : Which) (p : List Bool) → IsRemaining order.diagram.lines own p →
      Meets order.game (aims.Won which vertex) p → Meets part (aims.Won which place) p
  meets_there which p left m = (is.wins p left (loser which)).1 m

  meets_back : (which : Which) (p : List Bool) → IsRemaining order.diagram.lines own p →
      Meets part (aims.Won which place) p → Meets order.game (aims.Won which vertex) p
  meets_back which p left m = (is.wins p left (loser which)).0 m

  pub found_back : (which : Which) (found : Found) → IsFound part order.diagram (aims.Won which place) own found →
      IsFound order.game order.diagram (aims.Won which vertex) own found
  found_back which (founds.Product example) h = record {
    remaining = h.remaining;
    meets = meets_back which example.features.items h.remaining h.meets;
    is_first = λ shown other left before m. h.is_first shown other left before (meets_there which other left m);
  }
  found_back which founds.Nothing h = λ p left m. h p left (meets_there which p left m)
  found_back which founds.Unsettled h = tt

  pub needs_back : (which : Which) (found : Demand) →
      AreFoundNeeds part order.diagram (aims.Won which place) own found →
      AreFoundNeeds order.game order.diagram (aims.Won which vertex) own found
  needs_back which (demands.These found) (some, needs) = (
    (some.0, some.1, meets_back which some.0 some.1 some.2),
    record {
      named = needs.named;
      in_order = needs.in_order;
      not_known = needs.not_known;
      forced = λ l c p left m. needs.forced l c p left (meets_there which p left m);
      complete = λ exact l below f. needs.complete exact l below (λ p left m. f p left (meets_back which p left m));
    },
  )
  needs_back which demands.Nothing h = λ p left m. h p left (meets_there which p left m)
  needs_back which demands.Unsettled h = tt

  all_meet_back : (which : Which) (examples : List Example) →
      AllMeet part order.diagram (aims.Won which place) own examples →
      AllMeet order.game order.diagram (aims.Won which vertex) own examples
  all_meet_back which [] h = h
  all_meet_back which (e ∷ es) h =
      ((h.0.0, meets_back which e.features.items h.0.0 h.0.1), all_meet_back which es h.1)

  pub findings_back : (which : Which) (findings : Findings) →
      AreFindings part order.diagram (aims.Won which place) own findings →
      AreFindings order.game order.diagram (aims.Won which vertex) own findings
  findings_back which findings h = record {
    met = all_meet_back which findings.met.items h.met;
    named = h.named;
    forced = λ l c p left m. h.forced l c p left (meets_there which p left m);
  }

  all_meet_there : (which : Which) (examples : List Example) →
      AllMeet order.game order.diagram (aims.Won which vertex) own examples →
      AllMeet part order.diagram (aims.Won which place) own examples
  all_meet_there which [] h = h
  all_meet_there which (e ∷ es) h =
      ((h.0.0, meets_there which e.features.items h.0.0 h.0.1), all_meet_there which es h.1)

  pub findings_there : (which : Which) (findings : Findings) →
      AreFindings order.game order.diagram (aims.Won which vertex) own findings →
      AreFindings part order.diagram (aims.Won which place) own findings
  findings_there which findings h = record {
    met = all_meet_there which findings.met.items h.met;
    named = h.named;
    forced = λ l c p left m. h.forced l c p left (meets_back which p left m);
  }

  won_back : (player : Player) (example : Example) →
      IsWonProduct (graph_of part) order.diagram.lines own player place example →
      IsWonProduct (graph_of order.game) order.diagram.lines own player vertex example
  won_back player example h = record {
    remaining = h.remaining;
    wins = (is.wins example.features.items h.remaining player).0 h.wins;
    is_first = λ shown other left before w. h.is_first shown other left before ((is.wins other left player).1 w);
  }

  pub decided_back : (decided : Decided) → IsDecidedAs (graph_of part) order.diagram.lines own place decided →
      IsDecidedAs (graph_of order.game) order.diagram.lines own vertex decided
  decided_back decides.Won h = (h.0, λ p left. (is.wins p left Even).0 (h.1 p left))
  decided_back decides.Lost h = (h.0, λ p left. (is.wins p left Odd).0 (h.1 p left))
  decided_back (decides.Mixed won lost) h = (won_back Even won h.0, won_back Odd lost h.1)
  decided_back decides.Empty h = h
  decided_back decides.Unsettled h = tt

-- ---- an order on the part

module _ (order : OrderView) (vertex : ℕ) (made : OrderView) (place : ℕ)
    (is : IsPartOrder order vertex made place) where
  -- what holds of the part's diagram and decisions holds of the order's
  of_order : (P : NamedDiagram → List Decision → Type 0) → P made.diagram made.decisions →
      P order.diagram order.decisions
  of_order P h =
      subst (λ (ds : List Decision). P order.diagram ds) is.decisions
      (subst (λ (d : NamedDiagram). P d made.decisions) is.diagram h)

  to_made : (P : NamedDiagram → List Decision → Type 0) → P order.diagram order.decisions →
      P made.diagram made.decisions
  to_made P h =
      subst (λ (ds : List Decision). P made.diagram ds) (sym is.decisions)
      (subst (λ (d : NamedDiagram). P d order.decisions) (sym is.diagram) h)

  pub found_on : (which : Which) (found : Found) →
      IsFound made.game made.diagram (aims.Won which place) (choices made.decisions) found →
      IsFound order.game order.diagram (aims.Won which vertex) (choices order.decisions) found
  found_on which found h =
      found_back order vertex made.game place is.game which found
      (of_order (λ d ds. IsFound made.game d (aims.Won which place) (choices ds) found) h)

  pub needs_on : (which : Which) (found : Demand) →
      AreFoundNeeds made.game made.diagram (aims.Won which place) (choices made.decisions) found →
      AreFoundNeeds order.game order.diagram (aims.Won which vertex) (choices order.decisions) found
  needs_on which found h =
      needs_back order vertex made.game place is.game which found
      (of_order (λ d ds. AreFoundNeeds made.game d (aims.Won which place) (choices ds) found) h)

  pub findings_on : (which : Which) (findings : Findings) →
      AreFindings made.game made.diagram (aims.Won which place) (choices made.decisions) findings →
      AreFindings order.game order.diagram (aims.Won which vertex) (choices order.decisions) findings
  findings_on which findings h =
      findings_back order vertex made.game place is.game which findings
      (of_order (λ d ds. AreFindings made.game d (aims.Won which place) (choices ds) findings) h)

  pub findings_to : (which : Which) (findings : Findings) →
      AreFindings order.game order.diagram (aims.Won which vertex) (choices order.decisions) findings →
      AreFindings made.game made.diagram (aims.Won which place) (choices made.decisions) findings
  findings_to which findings h =
      to_made (λ d ds. AreFindings made.game d (aims.Won which place) (choices ds) findings)
      (findings_there order vertex made.game place is.game which findings h)

  pub decided_on : (decided : Decided) →
      IsDecidedAs (graph_of made.game) made.diagram.lines (choices made.decisions) place decided →
      IsDecidedAs (graph_of order.game) order.diagram.lines (choices order.decisions) vertex decided
  decided_on decided h =
      decided_back order vertex made.game place is.game decided
      (of_order (λ d ds. IsDecidedAs (graph_of made.game) d.lines (choices ds) place decided) h)

-- ---- the part of the game with each verdict won at once

pub part_is : (order : OrderView) (vertex : ℕ) (found : Option Reached) →
    IfSome found (λ x. x.game.features ≡ order.game.features) →
    IfSome found (λ x. x.vertex < length (graph_of x.game)) →
    IfSome found (λ x. (p : List Bool) → IsLeft order p →
    HasWinnersOf (graph_of order.game) vertex p (graph_of x.game) x.vertex) →
    IfSome found (λ x. IsPartOf order vertex x.game x.vertex)
part_is order vertex None f v w = tt
part_is order vertex (Some x) f v w = record { features = f; within = v; wins = w }
