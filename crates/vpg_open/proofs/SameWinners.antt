-- In each product the game with some vertices won at once has the winners of the game.
use Rattle.std.proofs.Common.{◌≡◌, ℕ, zero, suc, ◌<◌, Bool, List, [], ◌∷◌, length, map, get_or, Option, Some, None, refl, sym, subst, arith}
use Rattle.vpg_sides.specs.declared.player.Player.{Player}
use Rattle.vpg_guards.specs.Formula.{Formula, truth}
use Rattle.vpg_game.specs.Game.{NamedVertex, NamedGame, IsGame, graph_of, unnamed}
use Rattle.vpg_game.proofs.Graphs.{games_have_graphs}
use Rattle.vpg_hope.specs.Games.{isolated}
use Rattle.vpg_hope.specs.Hope.{product_game}
use Rattle.vpg_hope.proofs.Guards.{restrict_closed, same_count}
use Rattle.vpg_determined.proofs.Winning.{determined}
use Rattle.vpg_open.specs.SettledGames.{settled_vertices, settled_game, AreWinnersIn, HasSameWinners}
use Rattle.vpg_open.proofs.PlainGames.{won_vertex, wins_stay, winner_stays}

plain_at : (truth : Formula → Bool) (vs : List NamedVertex) (winners : List (Option Player)) (v : ℕ) →
    length winners ≡ length vs →
    get_or (product_game truth (map unnamed (settled_vertices vs winners))) v isolated
    ≡ won_vertex (get_or (product_game truth (map unnamed vs)) v isolated) (get_or winners v None)
plain_at truth [] [] v same = refl
plain_at truth [] (w ∷ winners) v same = absurd (omega (arith, same))
plain_at truth (x ∷ vs) [] v same = absurd (omega (arith, same))
plain_at truth (x ∷ vs) (None ∷ winners) zero same = refl
plain_at truth (x ∷ vs) (Some p ∷ winners) zero same = refl
plain_at truth (x ∷ vs) (w ∷ winners) (suc v) same = plain_at truth vs winners v (omega (arith, same))

pub same_winners : (game : NamedGame) (winners : List (Option Player)) (p : List Bool) → IsGame game →
    length winners ≡ length game.vertices → AreWinnersIn (graph_of game) winners p →
    HasSameWinners (graph_of game) (graph_of (settled_game game winners)) p
same_winners game winners p is same right player v lt = (
  λ h. winner_stays (product_game (truth p) (graph_of game)) (product_game (truth p) (graph_of (settled_game game winners)))
      (λ w. get_or winners w None) (λ w. plain_at (truth p) game.vertices winners w same) right player v
      (determined (product_game (truth p) (graph_of game)) v
      (restrict_closed Formula (λ mover guard. truth p guard) (graph_of game) (games_have_graphs game is).closed)
      (subst (λ (n : ℕ). v < n) (sym (same_count Formula (λ mover guard. truth p guard) (graph_of game))) lt)) h,
  λ h. (
    h.0,
    wins_stay (product_game (truth p) (graph_of game))
        (product_game (truth p) (graph_of (settled_game game winners))) (λ w. get_or winners w None)
        (λ w. plain_at (truth p) game.vertices winners w same) right player h.0 v h.1,
  ),
)
