-- One round of the recursion after another, in all products at once.
use Rattle.std.proofs.Common.{◌≡◌, ℕ, ◌<◌, ◌≤◌, List, Bool, true, false, length, subst}
use Rattle.vpg_sides.specs.declared.player.Player.{Player}
use Rattle.vpg_sides.specs.declared.player.Player.TheVariants.{Even, Odd}
use Rattle.vpg_sides.specs.Players.{WinsAt, opponent}
use Rattle.vpg_guards.specs.Formula.{Formula}
use Rattle.vpg_game.specs.Guarded.{GuardedGame}
use Rattle.vpg_hope.specs.Games.{priority_of}
use Rattle.vpg_zielonka.specs.declared.subset.Subset.{Subset}
use Rattle.vpg_zielonka.specs.declared.universe.Universe.{Universe}
use Rattle.vpg_zielonka.specs.Universes.{IsGrown}
use Rattle.vpg_zielonka.proofs.Growing.{grown_then}
use Rattle.vpg_zielonka.specs.Attractors.{Vertices}
use Rattle.vpg_zielonka.specs.Parts.{game_in, part_in, AreSets}
use Rattle.vpg_zielonka.specs.Rounds.{IsLive, IsBelowTops, IsGivenAway}
use Rattle.vpg_zielonka.specs.Solutions.{IsSolution}
use Rattle.vpg_zielonka.specs.Winners.{AreWinners, sets_of, wins_in}
use Rattle.vpg_zielonka.specs.declared.winners.Winners.{Winners}
use Rattle.vpg_zielonka.proofs.Filling.{part_below, part_grown}
use Rattle.vpg_zielonka.proofs.Recursion.{Continues, continues_end, continues_round, left_lives, given_within}

-- what the players have stays what it is when the universe grows
pub wins_grown : (a b : Universe) → IsGrown a b → (n : ℕ) (winners : Winners) → AreWinners a n winners →
    (p : List Bool) → wins_in b winners p ≡ wins_in a winners p
wins_grown a b g n winners are p = λ x player v. each player v x
  where
    sets_in : (player : Player) → AreSets a n (sets_of winners player)
    sets_in Even = are.won
    sets_in Odd = are.lost

    each : (player : Player) (v : ℕ) → wins_in b winners p player v ≡ wins_in a winners p player v
    each player v = part_grown a b g n (sets_of winners player) (sets_in player) p v

module _ (old : Universe) (graph : GuardedGame Formula) (first : List Subset) (bound : ℕ) where
  -- so far these are given away, and this part goes on
  pub record IsSolvedSoFar (now : Universe) (part : List Subset) (winners : Winners) : Type 0 where
    pub grown : IsGrown old now
    pub given : AreWinners now (length graph) winners
    pub sets : AreSets now (length graph) part
    pub live : (p : List Bool) → IsLive (game_in graph p) (part_in now part p)
    pub below : (p : List Bool) (v : ℕ) → part_in now part p v ≡ true → priority_of (game_in graph p) v < bound
    pub continues : (p : List Bool) → Continues (game_in graph p) (part_in old first p) (part_in now part p)
        (wins_in now winners p)

  pub loop_end : (now : Universe) (part : List Subset) (winners : Winners) → IsSolvedSoFar now part winners →
      ((p : List Bool) (v : ℕ) → part_in now part p v ≡ false) → (p : List Bool) →
      IsSolution (game_in graph p) (part_in old first p) (wins_in now winners p)
  loop_end now part winners is none p =
      continues_end (game_in graph p) (part_in old first p) (part_in now part p) (wins_in now winners p)
      (is.continues p) (none p)

  -- a round: below the tops (from a to b), the recursion (to c), and what is given away (to e)
  module _ (a b c e : Universe) (part left next : List Subset) (winners inner more : Winners) (q : Player) (d : ℕ)
      (is : IsSolvedSoFar a part winners) (to_b : IsGrown a b) (to_c : IsGrown b c) (to_e : IsGrown c e)
      (parity : WinsAt q d)
      (greatest : (p : List Bool) (v : ℕ) → part_in a part p v ≡ true → priority_of (game_in graph p) v ≤ d)
      (lower : (p : List Bool) → IsBelowTops (game_in graph p) q d (part_in a part p) (part_in b left p))
      (solved : (p : List Bool) → IsSolution (game_in graph p) (part_in b left p) (wins_in c inner p))
      (nexts : AreSets e (length graph) next) (gives : AreWinners e (length graph) more)
      (step : (p : List Bool) → IsGivenAway (game_in graph p) q (part_in c part p)
      (wins_in c inner p (opponent q)) (part_in e next p) (wins_in c winners p) (wins_in e more p)) where
    to_later : IsGrown a c
    to_later = grown_then a b c to_b to_c

    same_part : (p : List Bool) → part_in c part p ≡ part_in a part p
    same_part p = λ x v. part_grown a c to_later (length graph) part is.sets p v x

    step_here : (p : List Bool) → IsGivenAway (game_in graph p) q (part_in a part p)
        (wins_in c inner p (opponent q)) (part_in e next p) (wins_in a winners p) (wins_in e more p)
    step_here p =
        subst (λ (w : Player → Vertices). IsGivenAway (game_in graph p) q (part_in a part p)
        (wins_in c inner p (opponent q)) (part_in e next p) w (wins_in e more p))
        (wins_grown a c to_later (length graph) winners is.given p)
        (subst (λ (m : Vertices). IsGivenAway (game_in graph p) q m (wins_in c inner p (opponent q))
        (part_in e next p) (wins_in c winners p) (wins_in e more p)) (same_part p) (step p))

    inside : (p : List Bool) (v : ℕ) → part_in a part p v ≡ true → v < length graph
    inside p v m = subst (λ n. v < n) is.sets.count_is (part_below a part p v m)

    pub loop_more : IsSolvedSoFar e next more
    loop_more = record {
      grown = grown_then old a e is.grown (grown_then a c e to_later to_e);
      given = gives;
      sets = nexts;
      live = λ p. left_lives (game_in graph p) (length graph) (part_in old first p) (part_in a part p)
          (part_in e next p) q (wins_in a winners p) (wins_in e more p) (is.continues p) (inside p) d
          (part_in b left p) (wins_in c inner p) (is.live p) (greatest p) parity (lower p) (solved p) (step_here p);
      below = λ p v m. is.below p v (given_within (game_in graph p) q (part_in a part p)
          (wins_in c inner p (opponent q)) (part_in e next p) (wins_in a winners p) (wins_in e more p)
          (step_here p) v m);
      continues = λ p. continues_round (game_in graph p) (length graph) (part_in old first p) (part_in a part p)
          (part_in e next p) q (wins_in a winners p) (wins_in e more p) (is.continues p) (inside p) d
          (part_in b left p) (wins_in c inner p) (is.live p) (greatest p) parity (lower p) (solved p) (step_here p);
    }
