-- A solution in each product is the promise: each product of the set is won by one of the players.
use Rattle.std.proofs.Common.{◌≡◌, ℕ, ◌<◌, ◌⊎◌, inl, inr, List, Bool, true, ◌&&◌, length, sym, ◌∙◌, ap, subst}
use Rattle.std.proofs.lemmas.Bool.{and_parts, and_from}
use Rattle.vpg_sides.specs.declared.player.Player.{Player}
use Rattle.vpg_sides.specs.declared.player.Player.TheVariants.{Even, Odd}
use Rattle.vpg_guards.specs.Formula.{Formula}
use Rattle.vpg_game.specs.Guarded.{GuardedGame}
use Rattle.vpg_hope.specs.Games.{HasEdge}
use Rattle.vpg_determined.specs.Determined.{HasWin}
use Rattle.vpg_zielonka.specs.declared.subset.Subset.{Subset}
use Rattle.vpg_zielonka.specs.declared.universe.Universe.{Universe}
use Rattle.vpg_zielonka.specs.Universes.{IsInside, has}
use Rattle.vpg_zielonka.specs.Attractors.{Vertices}
use Rattle.vpg_zielonka.specs.Parts.{set_at, game_in, AreSets}
use Rattle.vpg_zielonka.specs.Reached.{IsClosed}
use Rattle.vpg_zielonka.specs.Solutions.{IsSolution}
use Rattle.vpg_zielonka.specs.Winners.{AreShared, AreWinners, sets_of, wins_in}
use Rattle.vpg_zielonka.specs.declared.winners.Shares.{Shares}
use Rattle.vpg_zielonka.specs.declared.winners.Winners.{Winners}
use Rattle.vpg_zielonka.proofs.Filling.{part_inside}
use Rattle.vpg_zielonka.proofs.Wins.{has_win}

module _ (universe : Universe) (graph : GuardedGame Formula) (products : Subset) (winners : Winners)
    (are : AreWinners universe (length graph) winners) (reach : Vertices) (closed : IsClosed graph reach)
    (whole : List Bool → Vertices)
    (is_whole : (p : List Bool) (v : ℕ) → whole p v ≡ (reach v && has universe products p))
    (solved : (p : List Bool) → IsSolution (game_in graph p) (whole p) (wins_in universe winners p)) where
  sets_in : (player : Player) → AreSets universe (length graph) (sets_of winners player)
  sets_in Even = are.won
  sets_in Odd = are.lost

  in_wins : (player : Player) (v : ℕ) (p : List Bool) → v < length graph →
      wins_in universe winners p player v ≡ has universe (set_at (sets_of winners player) v) p
  in_wins player v p l = part_inside universe (sets_of winners player) p v
      (subst (λ n. v < n) (sym (sets_in player).count_is) l)

  -- in the part each vertex was reached, in a product of the set
  parts : (p : List Bool) (v : ℕ) → whole p v ≡ true → (reach v ≡ true) × (has universe products p ≡ true)
  parts p v e = and_parts (reach v) (has universe products p) (sym (is_whole p v) ∙ e)

  in_whole : (p : List Bool) (v : ℕ) → reach v ≡ true → has universe products p ≡ true → whole p v ≡ true
  in_whole p v r g = is_whole p v ∙ and_from (reach v) (has universe products p) r g

  stays : (p : List Bool) (v w : ℕ) → whole p v ≡ true → HasEdge (game_in graph p) v w → whole p w ≡ true
  stays p v w e edge = in_whole p w (closed p v w (parts p v e).0 edge) (parts p v e).1

  -- what a player wins is in the set
  inside_set : (player : Player) (v : ℕ) (p : List Bool) → v < length graph →
      has universe (set_at (sets_of winners player) v) p ≡ true → has universe products p ≡ true
  inside_set player v p l e = (parts p v (((solved p).won player).inside v (in_wins player v p l ∙ e))).1

  wins : (player : Player) (v : ℕ) (p : List Bool) → v < length graph →
      has universe (set_at (sets_of winners player) v) p ≡ true → HasWin (game_in graph p) player v
  wins player v p l e = has_win (game_in graph p) (whole p) (stays p) (wins_in universe winners p) (solved p) player v
      (in_wins player v p l ∙ e)

  module _ (vertex : ℕ) (l : vertex < length graph) (start : reach vertex ≡ true) (shares : Shares)
      (won_is : shares.won ≡ set_at winners.won.items vertex)
      (lost_is : shares.lost ≡ set_at winners.lost.items vertex) where
    abbrev here : Player → Subset
    here Even = shares.won
    here Odd = shares.lost

    here_is : (player : Player) → here player ≡ set_at (sets_of winners player) vertex
    here_is Even = won_is
    here_is Odd = lost_is

    read : (player : Player) (p : List Bool) →
        has universe (here player) p ≡ has universe (set_at (sets_of winners player) vertex) p
    read player p = ap (λ (s : Subset). has universe s p) (here_is player)

    inside : (player : Player) → IsInside universe (here player)
    inside player = subst (λ (s : Subset). IsInside universe s) (sym (here_is player))
        ((sets_in player).inside vertex (subst (λ n. vertex < n) (sym (sets_in player).count_is) l))

    pub promised : AreShared universe graph vertex products shares
    promised = record {
      won_inside = inside Even;
      lost_inside = inside Odd;
      won = λ p e. wins Even vertex p l (sym (read Even p) ∙ e);
      lost = λ p e. wins Odd vertex p l (sym (read Odd p) ∙ e);
      all = λ p e. each p ((solved p).each vertex (in_whole p vertex start e));
      only = only;
    }
      where
        each : (p : List Bool) → (player : Player) × (wins_in universe winners p player vertex ≡ true) →
            (has universe shares.won p ≡ true) ⊎ (has universe shares.lost p ≡ true)
        each p (Even, e) = inl (read Even p ∙ sym (in_wins Even vertex p l) ∙ e)
        each p (Odd, e) = inr (read Odd p ∙ sym (in_wins Odd vertex p l) ∙ e)

        only : (p : List Bool) → (has universe shares.won p ≡ true) ⊎ (has universe shares.lost p ≡ true) →
            has universe products p ≡ true
        only p (inl e) = inside_set Even vertex p l (sym (read Even p) ∙ e)
        only p (inr e) = inside_set Odd vertex p l (sym (read Odd p) ∙ e)
