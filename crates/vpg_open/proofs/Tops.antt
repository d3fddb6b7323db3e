-- A verdict of an order's tables says who wins in every product left.
use Rattle.std.proofs.Common.{◌≡◌, ℕ, zero, suc, ◌<◌, Bool, true, false, List, [], ◌∷◌, length, map, get_or, Option, Some, None, IfSome, refl, sym, ap, ap₂, subst, ◌∙◌, arith}
use Rattle.vpg_sides.specs.declared.player.Player.{Player}
use Rattle.vpg_sides.specs.declared.player.Player.TheVariants.{Even, Odd}
use Rattle.vpg_sides.specs.declared.which.Which.TheVariants.{Hopeful, Dual}
use Rattle.vpg_guards.specs.declared.tri.Tri.{Tri}
use Rattle.vpg_guards.specs.declared.tri.Tri.TheVariants.{No, Unknown, Yes}
use Rattle.vpg_guards.specs.Formula.{Formula, truth}
use Rattle.vpg_guards.specs.Known.{kleene, Agrees}
use Rattle.vpg_guards.proofs.Kleene.{known_values_hold}
use Rattle.vpg_game.specs.Game.{NamedGame, IsGame, graph_of, vertex_in, unnamed, no_vertex}
use Rattle.vpg_game.specs.Guarded.{GuardedGame, GuardedVertex, AllGuards, IsClosedGuarded}
use Rattle.vpg_game.proofs.Graphs.{games_have_graphs, graph_at, same_count}
use Rattle.vpg_hope.specs.Hope.{AgreesWithTruth, product_game}
use Rattle.vpg_partial.specs.Known.{literal_of}
use Rattle.vpg_partial.proofs.Tables.{remaining_products_complete}
use Rattle.vpg_measure.specs.Orders.{OrderView, IsOrder}
use Rattle.vpg_determined.specs.Determined.{HasWin}
use Rattle.vpg_determined.specs.ProductLaws.{HasWinningMoves}
use Rattle.vpg_determined.proofs.Products.{verdicts_have_moves}
use Rattle.vpg_open.specs.OpenVertices.{IsOpenVertex, IsVerdict, IsLeft}
use Rattle.vpg_open.specs.ReachedGames.{HasWinnersOf}
use Rattle.vpg_open.specs.SettledGames.{AreWinnersIn, HasSameWinners, settled_vertex, settled_vertices, settled_game}
use Rattle.vpg_open.specs.declared.reaching.Reached.{Reached}
use Rattle.vpg_open.proofs.Entries.{settled_at, same_graph_length}
use Rattle.vpg_open.proofs.SameWinners.{same_winners}

agrees_parts : (t : Tri) (b : Bool) → Agrees t b → (t ≡ Yes → b ≡ true) × (t ≡ No → b ≡ false)
agrees_parts No b h = ((λ e. cc), λ e. h)
agrees_parts Unknown b h = ((λ e. cc), λ e. cc)
agrees_parts Yes b h = ((λ e. h), λ e. cc)

each_guard : (P : Formula → Type 0) (game : GuardedGame Formula) → ((g : Formula) → P g) → AllGuards P game
each_guard P game f = λ i d l j e k. f _

got_within : (winners : List (Option Player)) (v : ℕ) (player : Player) → get_or winners v None ≡ Some player →
    v < length winners
got_within [] v player e = absurd cc
got_within (w ∷ winners) zero player e = omega arith
got_within (w ∷ winners) (suc v) player e = omega (arith, got_within winners v player e)

module _ (order : OrderView) (is : IsOrder order) where
  closed : IsClosedGuarded (graph_of order.game)
  closed = (games_have_graphs order.game is.game).closed

  agrees : (p : List Bool) → IsLeft order p → AgreesWithTruth (kleene order.known) (truth p) (graph_of order.game)
  agrees p left =
      each_guard (λ g. (kleene order.known g ≡ Yes → truth p g ≡ true) × (kleene order.known g ≡ No → truth p g ≡ false))
      (graph_of order.game)
      (λ g. agrees_parts (kleene order.known g) (truth p g) (known_values_hold order.known p g
      (remaining_products_complete order.diagram.lines (map literal_of order.decisions) order.known p
      is.diagram.diagram is.known left)))

  top_wins : (v : ℕ) (player : Player) → v < length (graph_of order.game) → IsVerdict order v (Some player) →
      (p : List Bool) → IsLeft order p → HasWin (product_game (truth p) (graph_of order.game)) player v
  top_wins v Odd lt top p left =
      of (verdicts_have_moves Formula (kleene order.known) (graph_of order.game) closed v lt Dual order.hopeful
      (is.below Hopeful) top)
    where
      of : HasWinningMoves (kleene order.known) Dual (graph_of order.game) v →
          HasWin (product_game (truth p) (graph_of order.game)) Odd v
      of h = (h.strategy, h.wins (truth p) (agrees p left))
  top_wins v Even lt top p left =
      of (verdicts_have_moves Formula (kleene order.known) (graph_of order.game) closed v lt Hopeful order.dual
      (is.below Dual) top)
    where
      of : HasWinningMoves (kleene order.known) Hopeful (graph_of order.game) v →
          HasWin (product_game (truth p) (graph_of order.game)) Even v
      of h = (h.strategy, h.wins (truth p) (agrees p left))

  pub verdicts_win : (winners : List (Option Player)) → length winners ≡ length (graph_of order.game) →
      ((v : ℕ) → v < length (graph_of order.game) → IsVerdict order v (get_or winners v None)) →
      (p : List Bool) → IsLeft order p → AreWinnersIn (graph_of order.game) winners p
  verdicts_win winners same are p left v player e =
      let lt : v < length (graph_of order.game) = omega (arith, same, got_within winners v player e) in
      top_wins v player lt (subst (IsVerdict order v) e (are v lt)) p left

-- ---- the game

module _ (order : OrderView) (winners : List (Option Player)) (same : length winners ≡ length order.game.vertices)
    (v : ℕ) (is : IsVerdict order v (get_or winners v None)) where
  there : vertex_in (graph_of (settled_game order.game winners)) v
      ≡ unnamed (settled_vertex (get_or order.game.vertices v no_vertex) (get_or winners v None))
  there =
      graph_at (settled_vertices order.game.vertices winners) v
      ∙ ap unnamed (settled_at order.game.vertices winners v same)

  open_stays : IsOpenVertex order v →
      vertex_in (graph_of (settled_game order.game winners)) v ≡ vertex_in (graph_of order.game) v
  open_stays none = there ∙ of (get_or winners v None) is ∙ sym (graph_at order.game.vertices v)
    where
      of : (winner : Option Player) → IsVerdict order v winner →
          unnamed (settled_vertex (get_or order.game.vertices v no_vertex) winner)
          ≡ unnamed (get_or order.game.vertices v no_vertex)
      of None h = refl
      of (Some Odd) h = absurd (none.0 h)
      of (Some Even) h = absurd (none.1 h)

  others_end : (IsOpenVertex order v → ⊥) → (vertex_in (graph_of (settled_game order.game winners)) v).edges ≡ []
  others_end some = ap (λ (x : GuardedVertex Formula). x.edges) there ∙ of (get_or winners v None) is
    where
      of : (winner : Option Player) → IsVerdict order v winner →
          (unnamed (settled_vertex (get_or order.game.vertices v no_vertex) winner)).edges ≡ []
      of None h = absurd (some h)
      of (Some player) h = refl

-- where verdicts are passed on to `settled` with the order's game
module _ (order : OrderView) (game : NamedGame) (winners passed : List (Option Player)) (made : NamedGame)
    (same_game : game ≡ order.game) (same_passed : passed ≡ winners)
    (same : length winners ≡ length (graph_of order.game)) where
  made_is : made ≡ settled_game game passed → made ≡ settled_game order.game winners
  made_is e = e ∙ ap₂ settled_game same_game same_passed

  within : made ≡ settled_game game passed → (v : ℕ) → v < length (graph_of made) → v < length (graph_of order.game)
  within e v lt =
      subst (λ (n : ℕ). v < n) (same_graph_length order.game winners)
      (subst (λ (g : NamedGame). v < length (graph_of g)) (made_is e) lt)

  as_many : length winners ≡ length order.game.vertices
  as_many = same ∙ same_count order.game

  module _ (e : made ≡ settled_game game passed)
      (are : (v : ℕ) → v < length (graph_of order.game) → IsVerdict order v (get_or winners v None)) where
    pub open_vertices_stay : (v : ℕ) → v < length (graph_of made) → IsOpenVertex order v →
        vertex_in (graph_of made) v ≡ vertex_in (graph_of order.game) v
    open_vertices_stay v lt none =
        subst (λ (g : NamedGame). vertex_in (graph_of g) v ≡ vertex_in (graph_of order.game) v) (sym (made_is e))
        (open_stays order winners as_many v (are v (within e v lt)) none)

    pub other_vertices_end : (v : ℕ) → v < length (graph_of made) → (IsOpenVertex order v → ⊥) →
        (vertex_in (graph_of made) v).edges ≡ []
    other_vertices_end v lt some =
        subst (λ (g : NamedGame). (vertex_in (graph_of g) v).edges ≡ []) (sym (made_is e))
        (others_end order winners as_many v (are v (within e v lt)) some)

  pub winners_stay :
      ((p : List Bool) → AreWinnersIn (graph_of game) passed p → HasSameWinners (graph_of game) (graph_of made) p) →
      ((p : List Bool) → IsLeft order p → AreWinnersIn (graph_of order.game) winners p) →
      (p : List Bool) → IsLeft order p → HasSameWinners (graph_of order.game) (graph_of made) p
  winners_stay stay right p left =
      subst (λ (g : NamedGame). HasSameWinners (graph_of g) (graph_of made) p) same_game
      (stay p (subst (λ (ws : List (Option Player)). AreWinnersIn (graph_of game) ws p) (sym same_passed)
      (subst (λ (g : NamedGame). AreWinnersIn (graph_of g) winners p) (sym same_game) (right p left))))

-- where they are passed on to `reached_settled` with the order's game
pub part_stays : (order : OrderView) (game : NamedGame) (winners passed : List (Option Player)) (vertex : ℕ)
    (found : Option Reached) → IsGame order.game → game ≡ order.game → passed ≡ winners →
    length winners ≡ length (graph_of order.game) → vertex < length (graph_of order.game) →
    IfSome found (λ x. (p : List Bool) →
    HasWinnersOf (graph_of (settled_game game passed)) vertex p (graph_of x.game) x.vertex) →
    ((p : List Bool) → IsLeft order p → AreWinnersIn (graph_of order.game) winners p) →
    IfSome found (λ x. (p : List Bool) → IsLeft order p →
    HasWinnersOf (graph_of order.game) vertex p (graph_of x.game) x.vertex)
part_stays order game winners passed vertex None is same_game same_passed same lt wins right = tt
part_stays order game winners passed vertex (Some x) is same_game same_passed same lt wins right = λ p left player.
    let there : HasWinnersOf (graph_of (settled_game order.game winners)) vertex p (graph_of x.game) x.vertex =
    subst (λ (g : NamedGame). HasWinnersOf (graph_of g) vertex p (graph_of x.game) x.vertex)
    (ap₂ settled_game same_game same_passed) (wins p) in
    let stay : HasSameWinners (graph_of order.game) (graph_of (settled_game order.game winners)) p =
    same_winners order.game winners p is (same ∙ same_count order.game) (right p left) in
    (λ h. (stay player vertex lt).0 ((there player).0 h), λ h. (there player).1 ((stay player vertex lt).1 h))
