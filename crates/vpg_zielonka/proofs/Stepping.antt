-- One round of the loop, from the sets that the calls read and return.
use Rattle.std.proofs.Common.{◌≡◌, ℕ, ◌<◌, ◌≤◌, List, Bool, true, false, length, sym, ◌∙◌, ap, subst}
use Rattle.vpg_sides.specs.declared.player.Player.{Player}
use Rattle.vpg_sides.specs.Players.{WinsAt, opponent}
use Rattle.vpg_guards.specs.Formula.{Formula}
use Rattle.vpg_game.specs.Guarded.{GuardedGame}
use Rattle.vpg_hope.specs.Games.{priority_of}
use Rattle.vpg_zielonka.specs.declared.subset.Subset.{Subset}
use Rattle.vpg_zielonka.specs.declared.universe.Universe.{Universe}
use Rattle.vpg_zielonka.specs.Universes.{IsGrown}
use Rattle.vpg_zielonka.proofs.Growing.{grown_then}
use Rattle.vpg_zielonka.specs.Attractors.{IsWithin}
use Rattle.vpg_zielonka.specs.Parts.{game_in, part_in, AreSets}
use Rattle.vpg_zielonka.specs.Rounds.{IsLive, IsBelowTops, IsGivenAway}
use Rattle.vpg_zielonka.specs.Solutions.{IsSolution}
use Rattle.vpg_zielonka.specs.Winners.{AreWinners, sets_of, wins_in}
use Rattle.vpg_zielonka.specs.declared.winners.Winners.{Winners}
use Rattle.vpg_zielonka.proofs.Filling.{part_grown}
use Rattle.vpg_zielonka.proofs.Looping.{IsSolvedSoFar, loop_end, loop_more}
use Rattle.vpg_zielonka.proofs.Recursion.{below_lives, below_less, found_within}
use Rattle.vpg_zielonka.proofs.Rounding.{live_grown}

module _ (old : Universe) (graph : GuardedGame Formula) (first : List Subset) (bound : ℕ) (a : Universe) (part : List Subset)
    (winners : Winners) (is : IsSolvedSoFar old graph first bound a part winners) (one : List Subset) (one_is : one ≡ part)
  where
    -- no vertex is left
    pub loop_ends : ((p : List Bool) (v : ℕ) → part_in a one p v ≡ false) → (p : List Bool) →
        IsSolution (game_in graph p) (part_in old first p) (wins_in a winners p)
    loop_ends none = loop_end old graph first bound a part winners is
        (subst (λ (xs : List Subset). (p : List Bool) (v : ℕ) → part_in a xs p v ≡ false) one_is none)

    -- the greatest priority is below the bound
    pub below_bound : (d : ℕ) → (p : List Bool) × (v : ℕ) × (part_in a one p v ≡ true) ×
        (priority_of (game_in graph p) v ≡ d) → d < bound
    below_bound d some = subst (λ n. n < bound) some.3 (is.below some.0 some.1
        (subst (λ (xs : List Subset). part_in a xs some.0 some.1 ≡ true) one_is some.2))

    module _ (b : Universe) (to_b : IsGrown a b) (left two : List Subset) (two_is : two ≡ part) (q : Player) (d : ℕ)
        (greatest : (p : List Bool) (v : ℕ) → part_in a one p v ≡ true → priority_of (game_in graph p) v ≤ d)
        (lower : (p : List Bool) → IsBelowTops (game_in graph p) q d (part_in a two p) (part_in b left p)) where
      greatest_here : (p : List Bool) (v : ℕ) → part_in a part p v ≡ true → priority_of (game_in graph p) v ≤ d
      greatest_here = subst (λ (xs : List Subset). (p : List Bool) (v : ℕ) → part_in a xs p v ≡ true →
          priority_of (game_in graph p) v ≤ d) one_is greatest

      lower_here : (p : List Bool) → IsBelowTops (game_in graph p) q d (part_in a part p) (part_in b left p)
      lower_here p = subst (λ (xs : List Subset). IsBelowTops (game_in graph p) q d (part_in a xs p) (part_in b left p)) two_is
          (lower p)

      -- what is below the tops is to be solved
      pub next_live : (p : List Bool) → IsLive (game_in graph p) (part_in b left p)
      next_live p = below_lives (game_in graph p) q d (part_in a part p) (part_in b left p) (is.live p) (lower_here p)

      pub next_below : (p : List Bool) (v : ℕ) → part_in b left p v ≡ true → priority_of (game_in graph p) v < d
      next_below p = below_less (game_in graph p) q d (part_in a part p) (part_in b left p) (greatest_here p) (lower_here p)

      module _ (c : Universe) (to_c : IsGrown b c) (inner : Winners)
          (solved : (p : List Bool) → IsSolution (game_in graph p) (part_in b left p) (wins_in c inner p))
          (r : Player) (r_is : r ≡ opponent q) (others three : List Subset) (others_are : others ≡ sets_of inner r)
          (three_is : three ≡ part) where
        to_later : IsGrown a c
        to_later = grown_then a b c to_b to_c

        -- what the opponent won is given away with what it draws
        pub others_inside : (p : List Bool) → IsWithin (part_in c others p) (part_in c three p)
        others_inside p v m = ap (λ (xs : List Subset). part_in c xs p v) three_is
            ∙ part_grown a c to_later (length graph) part is.sets p v
            ∙ found_within (game_in graph p) q d (part_in a part p) (part_in b left p) (wins_in c inner p) r (lower_here p)
            (solved p) v (subst (λ (xs : List Subset). part_in c xs p v ≡ true) others_are m)

        pub three_live : (p : List Bool) → IsLive (game_in graph p) (part_in c three p)
        three_live p = subst (λ (xs : List Subset). IsLive (game_in graph p) (part_in c xs p)) (sym three_is)
            (live_grown a c to_later graph part is.sets is.live p)

        pub round_more : (e : Universe) → IsGrown c e → (next : List Subset) (more : Winners) → WinsAt q d →
            AreSets e (length graph) next → AreWinners e (length graph) more →
            ((p : List Bool) → IsGivenAway (game_in graph p) q (part_in c three p) (part_in c others p) (part_in e next p)
            (wins_in c winners p) (wins_in e more p)) → IsSolvedSoFar old graph first bound e next more
        round_more e to_e next more parity nexts gives step =
            loop_more old graph first bound a b c e part left next winners inner more q d is to_b to_c to_e parity
            greatest_here lower_here solved nexts gives
            (λ p. subst (λ (xs : List Subset). IsGivenAway (game_in graph p) q (part_in c xs p) (wins_in c inner p (opponent q))
            (part_in e next p) (wins_in c winners p) (wins_in e more p)) three_is
            (subst (λ (xs : List Subset). IsGivenAway (game_in graph p) q (part_in c three p) (part_in c xs p)
            (part_in e next p) (wins_in c winners p) (wins_in e more p))
            (others_are ∙ ap (λ (x : Player). sets_of inner x) r_is) (step p)))
