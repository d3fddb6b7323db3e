-- Where each product that is left meets an aim, any will do.
use Rattle.std.proofs.Common.{ℕ, ◌<◌, ◌⊎◌, inl, inr, Bool, List, length, sym, subst, ◌∙◌}
use Rattle.vpg_sides.specs.declared.player.Player.TheVariants.{Even, Odd}
use Rattle.vpg_guards.specs.Formula.{Formula, truth}
use Rattle.vpg_diagram.specs.DiagramText.{NamedDiagram, IsNamedDiagram}
use Rattle.vpg_diagram.specs.declared.clause.Literal.{Literal}
use Rattle.vpg_game.specs.Game.{NamedGame, IsGame, graph_of}
use Rattle.vpg_game.proofs.Graphs.{games_have_graphs, same_count as graph_count}
use Rattle.vpg_hope.specs.Hope.{product_game}
use Rattle.vpg_hope.proofs.Guards.{restrict_closed, same_count}
use Rattle.vpg_determined.specs.Determined.{HasWin}
use Rattle.vpg_determined.proofs.Winning.{determined}
use Rattle.vpg_partial.specs.TableLaws.{AreChoicesOf, IsKnownTable}
use Rattle.vpg_guards.specs.declared.tri.Tri.{Tri}
use Rattle.vpg_measure.specs.Orders.{other_table}
use Rattle.vpg_sides.specs.declared.which.Which.{Which}
use Rattle.vpg_sides.specs.declared.which.Which.TheVariants.{Hopeful, Dual}
use Rattle.vpg_why.specs.declared.forcing.Demand.{Demand}
use Rattle.vpg_why.specs.declared.forcing.Demand.TheVariants as demands
use Rattle.vpg_why.specs.declared.question.Aim.{Aim}
use Rattle.vpg_why.specs.declared.question.Aim.TheVariants as aims
use Rattle.vpg_why.specs.declared.question.Limits.{Limits}
use Rattle.vpg_why.specs.declared.question.Question.TheVariants as asks
use Rattle.vpg_why.specs.declared.searching.Found.{Found}
use Rattle.vpg_why.specs.declared.searching.Found.TheVariants as founds
use Rattle.vpg_why.specs.declared.searching.Reasoned.{Reasoned}
use Rattle.vpg_why.specs.declared.searching.Reasoned.TheVariants as reasons
use Rattle.vpg_why.specs.Eased.{EachMeets, IsEased}
use Rattle.vpg_why.specs.Found.{IsFound, IsFoundProduct, AreFoundNeeds}
use Rattle.vpg_why.specs.Products.{Meets, NoneMeets, AreNeeds}
use Rattle.vpg_why.specs.Reasons.{IsReasoned}
use Rattle.vpg_why.specs.Suffices.{AimSettles, IsAim, IsSettled, IsTopUnder, Suffice}
use Rattle.vpg_why.proofs.Asked.{verdict_by}
use Rattle.vpg_why.proofs.Losing.{sufficient_choices_lose}

module _ (game : NamedGame) (diagram : NamedDiagram) (chosen : List Literal) (vertex : ℕ) (is : IsGame game)
    (is_diagram : IsNamedDiagram diagram) (named : AreChoicesOf diagram.lines chosen)
    (inside : vertex < length game.vertices) where
  one_wins : (set : List Bool) → HasWin (product_game (truth set) (graph_of game)) Even vertex ⊎
      HasWin (product_game (truth set) (graph_of game)) Odd vertex
  one_wins set = determined (product_game (truth set) (graph_of game)) vertex
      (restrict_closed Formula (λ mover guard. truth set guard) (graph_of game) (games_have_graphs game is).closed)
      (subst (λ n. vertex < n)
      (sym (same_count Formula (λ mover guard. truth set guard) (graph_of game) ∙ graph_count game)) inside)

  -- parity games are determined
  wins_if_not : (which : Which) → NoneMeets game diagram (aims.Won (other_table which) vertex) chosen →
      EachMeets game diagram chosen (aims.Won which vertex)
  wins_if_not Hopeful none set remains = of (one_wins set)
    where
      of : HasWin (product_game (truth set) (graph_of game)) Even vertex ⊎
          HasWin (product_game (truth set) (graph_of game)) Odd vertex → Meets game (aims.Won Hopeful vertex) set
      of (inl h) = h
      of (inr h) = absurd (none set remains h)
  wins_if_not Dual none set remains = of (one_wins set)
    where
      of : HasWin (product_game (truth set) (graph_of game)) Even vertex ⊎
          HasWin (product_game (truth set) (graph_of game)) Odd vertex → Meets game (aims.Won Dual vertex) set
      of (inl h) = absurd (none set remains h)
      of (inr h) = h

  -- the other verdict says that each product left meets the aim
  pub met_by_verdict : (which : Which) → Suffice game diagram (asks.Verdict (other_table which) vertex) chosen →
      EachMeets game diagram chosen (aims.Won which vertex)
  met_by_verdict which enough =
      wins_if_not which (sufficient_choices_lose game diagram (other_table which) vertex chosen is is_diagram named inside enough)

  pub met_under : (which : Which) (known : List Tri) → IsKnownTable diagram.lines chosen known →
      IsTopUnder game (other_table which) vertex known → EachMeets game diagram chosen (aims.Won which vertex)
  met_under which known t top = met_by_verdict which (verdict_by game diagram chosen (other_table which) vertex known t top)

-- ---- what holds for the easier aim

module _ (game : NamedGame) (diagram : NamedDiagram) (chosen : List Literal) (aim : Aim) where
  pub eased_aim : (eased : Aim) → IsEased game diagram chosen aim eased → IsAim game aim → IsAim game eased
  eased_aim aims.Any e inside = tt
  eased_aim (aims.Won which vertex) e inside = subst (λ (a : Aim). IsAim game a) e inside

  pub eased_settles : (eased : Aim) (rounds : ℕ) (own : List Literal) → IsEased game diagram chosen aim eased →
      AimSettles rounds game diagram aim own → AimSettles rounds game diagram eased own
  eased_settles aims.Any rounds own e s = λ more known t. tt
  eased_settles (aims.Won which vertex) rounds own e s = subst (λ (a : Aim). AimSettles rounds game diagram a own) e s

  pub eased_room : (eased : Aim) (limits : Limits) → IsEased game diagram chosen aim eased →
      IsSettled game diagram limits (asks.Lost aim) chosen → IsSettled game diagram limits (asks.Lost eased) chosen
  eased_room eased limits e s = (eased_settles eased limits.rounds chosen e s.0, s.1)

  -- a product that is found for it
  found_product : (set : List Bool) (first : Bool) → EachMeets game diagram chosen aim →
      IsFoundProduct game diagram aims.Any chosen set first → IsFoundProduct game diagram aim chosen set first
  found_product set first each p = record {
    remaining = p.remaining;
    meets = each set p.remaining;
    is_first = λ t other remains before meets. p.is_first t other remains before tt;
  }

  pub reasoned_eased : (eased : Aim) (found : Reasoned) → IsEased game diagram chosen aim eased →
      IsReasoned game diagram eased chosen found → IsReasoned game diagram aim chosen found
  reasoned_eased aims.Any (reasons.Product example) e p = found_product example.features.items example.first e p
  reasoned_eased aims.Any (reasons.Nothing marks) e p = record {
    count = p.count;
    lost = λ set remains meets. p.lost set remains tt;
  }
  reasoned_eased aims.Any reasons.Unsettled e p = tt
  reasoned_eased (aims.Won which vertex) found e p = subst (λ (a : Aim). IsReasoned game diagram a chosen found) (sym e) p

  pub found_eased : (eased : Aim) (found : Found) → IsEased game diagram chosen aim eased →
      IsFound game diagram eased chosen found → IsFound game diagram aim chosen found
  found_eased aims.Any (founds.Product example) e p = found_product example.features.items example.first e p
  found_eased aims.Any founds.Nothing e p = λ set remains meets. p set remains tt
  found_eased aims.Any founds.Unsettled e p = tt
  found_eased (aims.Won which vertex) found e p = subst (λ (a : Aim). IsFound game diagram a chosen found) (sym e) p

  needs_of_any : (listed : List Literal) (exact : Bool) → EachMeets game diagram chosen aim →
      AreNeeds game diagram aims.Any chosen listed exact → AreNeeds game diagram aim chosen listed exact
  needs_of_any listed exact each n = record {
    named = n.named;
    in_order = n.in_order;
    not_known = n.not_known;
    forced = λ l c set remains meets. n.forced l c set remains tt;
    complete = λ t l less forced. n.complete t l less (λ set remains meets. forced set remains (each set remains));
  }

  pub needs_eased : (eased : Aim) (found : Demand) → IsEased game diagram chosen aim eased →
      AreFoundNeeds game diagram eased chosen found → AreFoundNeeds game diagram aim chosen found
  needs_eased aims.Any (demands.These found) e n =
      ((n.0.0, n.0.1, e n.0.0 n.0.1), needs_of_any found.literals.items found.exact e n.1)
  needs_eased aims.Any demands.Nothing e n = λ set remains meets. n set remains tt
  needs_eased aims.Any demands.Unsettled e n = tt
  needs_eased (aims.Won which vertex) found e n = subst (λ (a : Aim). AreFoundNeeds game diagram a chosen found) (sym e) n
