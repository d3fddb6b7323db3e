-- All products at once: the priorities of a game, and what both players get in the end.
use Rattle.std.proofs.Common.{◌≡◌, ℕ, ◌<◌, ◌≤◌, List, Bool, true, false, ◌&&◌, ◌||◌, length, sym, ◌∙◌, ap, subst, arith}
use Rattle.vpg_sides.specs.declared.player.Player.{Player}
use Rattle.vpg_sides.specs.declared.player.Player.TheVariants.{Even, Odd}
use Rattle.vpg_sides.specs.Players.{opponent}
use Rattle.vpg_guards.specs.Formula.{Formula}
use Rattle.vpg_game.specs.Guarded.{GuardedVertex, GuardedGame}
use Rattle.vpg_game.specs.Game.{NamedGame, IsGame, graph_of, vertex_in}
use Rattle.vpg_game.proofs.Graphs.{same_count, graph_at}
use Rattle.vpg_hope.specs.Games.{priority_of}
use Rattle.vpg_hope.proofs.Selected.{priority_fits}
use Rattle.vpg_zielonka.specs.declared.subset.Subset.{Subset}
use Rattle.vpg_zielonka.specs.declared.universe.Universe.{Universe}
use Rattle.vpg_zielonka.specs.Universes.{IsInside, has, IsGrown}
use Rattle.vpg_zielonka.proofs.Growing.{inside_grown}
use Rattle.vpg_zielonka.specs.Attractors.{Vertices, IsJoined}
use Rattle.vpg_zielonka.specs.Parts.{game_in, part_in, set_at, AreSets}
use Rattle.vpg_zielonka.specs.Reached.{IsClosed}
use Rattle.vpg_zielonka.specs.Rounds.{IsLive, IsWithoutStuck}
use Rattle.vpg_zielonka.specs.Solutions.{IsSolution}
use Rattle.vpg_zielonka.specs.Winners.{AreShared, AreWinners, wins_in}
use Rattle.vpg_zielonka.specs.declared.winners.Shares.{Shares}
use Rattle.vpg_zielonka.specs.declared.winners.Winners.{Winners}
use Rattle.vpg_zielonka.proofs.Confining.{priority_is}
use Rattle.vpg_zielonka.proofs.Filling.{part_below, part_grown}
use Rattle.vpg_zielonka.proofs.Looping.{wins_grown}
use Rattle.vpg_zielonka.proofs.Promised.{promised}
use Rattle.vpg_zielonka.proofs.Recursion.{stuck_lives, whole_solved}

-- each priority of a game is below this bound
pub all_below : (game : NamedGame) → IsGame game → (universe : Universe) (part : List Subset) →
    AreSets universe (length (graph_of game)) part → (p : List Bool) (v : ℕ) → part_in universe part p v ≡ true →
    priority_of (game_in (graph_of game) p) v < 65537
all_below game is universe part are p v m = omega (arith, fits, same)
  where
    inside : v < length game.vertices
    inside = omega (arith, part_below universe part p v m, are.count_is, same_count game)

    same : priority_of (game_in (graph_of game) p) v ≡ (vertex_in (graph_of game) v).priority
    same = priority_is (graph_of game) p v

    fits : (vertex_in (graph_of game) v).priority ≤ 65536
    fits = subst (λ n. n ≤ 65536) (sym (ap (λ (x : GuardedVertex Formula). x.priority) (graph_at game.vertices v))) (priority_fits game v is inside)

-- each player gets what it wins of the rest
module _ (d e f g : Universe) (n : ℕ) (w2 w3 w4 solved : Winners) (de : IsGrown d e) (ef : IsGrown e f)
    (are : AreWinners d n w2) (of_rest : AreWinners e n solved)
    (won_read lost_read : List Subset) (won_are : won_read ≡ solved.won.items) (lost_are : lost_read ≡ solved.lost.items)
    (even : (p : List Bool) → IsJoined (wins_in f w3 p Even) (wins_in e w2 p Even) (part_in e won_read p))
    (even_other : (p : List Bool) (v : ℕ) → wins_in f w3 p (opponent Even) v ≡ wins_in e w2 p (opponent Even) v)
    (odd : (p : List Bool) → IsJoined (wins_in g w4 p Odd) (wins_in f w3 p Odd) (part_in f lost_read p))
    (odd_other : (p : List Bool) (v : ℕ) → wins_in g w4 p (opponent Odd) v ≡ wins_in f w3 p (opponent Odd) v) where
  pub both_given : (p : List Bool) (q : Player) → IsJoined (wins_in g w4 p q) (wins_in d w2 p q) (wins_in e solved p q)
  both_given p Even v = odd_other p v ∙ even p v
      ∙ ap (λ (xs : List Subset). wins_in e w2 p Even v || part_in e xs p v) won_are
      ∙ ap (λ (x : Bool). x || part_in e solved.won.items p v) (start Even)
    where
      start : (r : Player) → wins_in e w2 p r v ≡ wins_in d w2 p r v
      start r = ap (λ (k : Player → Vertices). k r v) (wins_grown d e de n w2 are p)
  both_given p Odd v = odd p v
      ∙ ap (λ (xs : List Subset). wins_in f w3 p Odd v || part_in f xs p v) lost_are
      ∙ ap (λ (x : Bool). x || part_in f solved.lost.items p v) (even_other p v ∙ start Odd)
      ∙ ap (λ (x : Bool). wins_in d w2 p Odd v || x) (part_grown e f ef n solved.lost.items of_rest.lost p v)
    where
      start : (r : Player) → wins_in e w2 p r v ≡ wins_in d w2 p r v
      start r = ap (λ (k : Player → Vertices). k r v) (wins_grown d e de n w2 are p)

-- the vertices without a move are given away: each vertex that is left has an edge
module _ (graph : GuardedGame Formula) (b c d : Universe) (all all_read middle middle_read left : List Subset)
    (all_are : all_read ≡ all) (middle_are : middle_read ≡ middle) (w0 w1 w2 : Winners)
    (one : (p : List Bool) → IsWithoutStuck (game_in graph p) Even (part_in b all_read p) (part_in c middle p)
    (wins_in b w0 p) (wins_in c w1 p))
    (two : (p : List Bool) → IsWithoutStuck (game_in graph p) Odd (part_in c middle_read p) (part_in d left p)
    (wins_in c w1 p) (wins_in d w2 p)) where
  one_here : (p : List Bool) → IsWithoutStuck (game_in graph p) Even (part_in b all p) (part_in c middle p)
      (wins_in b w0 p) (wins_in c w1 p)
  one_here p = subst (λ (xs : List Subset). IsWithoutStuck (game_in graph p) Even (part_in b xs p) (part_in c middle p)
      (wins_in b w0 p) (wins_in c w1 p)) all_are (one p)

  two_here : (p : List Bool) → IsWithoutStuck (game_in graph p) Odd (part_in c middle p) (part_in d left p)
      (wins_in c w1 p) (wins_in d w2 p)
  two_here p = subst (λ (xs : List Subset). IsWithoutStuck (game_in graph p) Odd (part_in c xs p) (part_in d left p)
      (wins_in c w1 p) (wins_in d w2 p)) middle_are (two p)

  pub rest_live : (p : List Bool) → IsLive (game_in graph p) (part_in d left p)
  rest_live p = stuck_lives (game_in graph p) (part_in b all p) (part_in c middle p) (part_in d left p)
      (wins_in b w0 p) (wins_in c w1 p) (wins_in d w2 p) (one_here p) (two_here p)

  -- so the promise holds
  pub all_solved : (a e g : Universe) (products : Subset) → IsInside a products → IsGrown a b → IsGrown b g → (solved w4 : Winners) →
      AreSets b (length graph) all → (reach : Vertices) → IsClosed graph reach →
      ((p : List Bool) (v : ℕ) → part_in b all p v ≡ (reach v && has b products p)) →
      ((p : List Bool) (q : Player) (v : ℕ) → wins_in b w0 p q v ≡ false) →
      ((p : List Bool) → IsSolution (game_in graph p) (part_in d left p) (wins_in e solved p)) →
      ((p : List Bool) (q : Player) → IsJoined (wins_in g w4 p q) (wins_in d w2 p q) (wins_in e solved p q)) →
      AreWinners g (length graph) w4 → (vertex : ℕ) → vertex < length graph → reach vertex ≡ true →
      (shares : Shares) → shares.won ≡ set_at w4.won.items vertex →
      shares.lost ≡ set_at w4.lost.items vertex → AreShared g graph vertex products shares
  all_solved a e g products inside ab bg solved w4 alls reach closed each none solution joined are vertex l start shares
      won_is lost_is =
      promised g graph products w4 are reach closed (part_in b all)
      (λ p v. each p v ∙ ap (λ (x : Bool). reach v && x) (sym (bg.same products in_b p)))
      (λ p. whole_solved (game_in graph p) (length graph) (part_in b all p) (part_in c middle p)
      (part_in d left p) (wins_in b w0 p) (wins_in c w1 p) (wins_in d w2 p) (wins_in e solved p) (wins_in g w4 p)
      (below p) (none p) (one_here p) (two_here p) (solution p) (joined p)) vertex l start shares won_is lost_is
    where
      in_b : IsInside b products
      in_b = inside_grown a b ab products inside

      below : (p : List Bool) (v : ℕ) → part_in b all p v ≡ true → v < length graph
      below p v m = subst (λ n. v < n) alls.count_is (part_below b all p v m)
