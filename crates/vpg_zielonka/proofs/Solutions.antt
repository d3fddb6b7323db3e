-- Who wins where in a part of a game, by sets that were computed, and how a round of the recursion is joined.
use Rattle.std.proofs.Common.{◌≡◌, ℕ, ◌<◌, ◌⊎◌, inl, inr, Bool, true, false, not, ◌&&◌, ◌||◌, refl, sym, ◌∙◌, ap, subst}
use Rattle.vpg_sides.specs.declared.player.Player.{Player}
use Rattle.vpg_sides.specs.Players.{opponent}
use Rattle.vpg_hope.specs.Games.{Game, HasEdge, owner_of}
use Rattle.vpg_hope.specs.Strategies.{Strategy}
use Rattle.vpg_hope.proofs.Dual.{opponent_twice}
use Rattle.vpg_hope.proofs.Reach.{cases_player, not_opponent}
use Rattle.vpg_determined.proofs.Masks.{Decided, Mask, In, Out, is_in}
use Rattle.vpg_determined.proofs.Dominions.{mix, mix_out, IsUnion, IsDominion, join, widen}
use Rattle.vpg_determined.proofs.Growing.{Refuses}
use Rattle.vpg_determined.proofs.Solved.{Nowhere}
use Rattle.vpg_zielonka.specs.Attractors.{Attracted, IsAttractor, seed, moved, forced, IsRest, IsJoined}
use Rattle.vpg_zielonka.specs.Rounds.{IsLive}
use Rattle.vpg_zielonka.specs.Solutions.{IsSolution}
use Rattle.vpg_zielonka.proofs.Attractions.{drawn_in, refused}

-- ---- tests

pub of_and : (a b : Bool) → (a && b) ≡ true → (a ≡ true) × (b ≡ true)
of_and true true e = (refl, refl)
of_and true false e = cc
of_and false b e = cc

pub of_less : (a b : Bool) → (a && not b) ≡ true → (a ≡ true) × (b ≡ true → ⊥)
of_less true true e = cc
of_less true false e = (refl, λ f. cc)
of_less false b e = cc

pub to_less : (a b : Bool) → a ≡ true → (b ≡ true → ⊥) → (a && not b) ≡ true
to_less true true e n = absurd (n refl)
to_less true false e n = refl
to_less false b e n = cc

pub of_or : (a b : Bool) → (a || b) ≡ true → (a ≡ true) ⊎ (b ≡ true)
of_or true b e = inl refl
of_or false true e = inr refl
of_or false false e = cc

pub or_left : (a b : Bool) → a ≡ true → (a || b) ≡ true
or_left true b e = refl
or_left false b e = cc

pub or_right : (a b : Bool) → b ≡ true → (a || b) ≡ true
or_right true b e = refl
or_right false true e = refl
or_right false false e = cc

module _ (left mask set : Mask) (is : IsRest left mask set) where
  pub of_rest : (v : ℕ) → In left v → In mask v × Out set v
  of_rest v e = of_less (mask v) (set v) (sym (is v) ∙ e)

  pub in_rest : (v : ℕ) → In mask v → Out set v → In left v
  in_rest v m out = is v ∙ to_less (mask v) (set v) m out

  pub split : (v : ℕ) → In mask v → Decided (In set v) → In set v ⊎ In left v
  split v m (inl e) = inl e
  split v m (inr out) = inr (in_rest v m out)

module _ (both one two : Mask) (is : IsJoined both one two) where
  pub of_joined : (v : ℕ) → In both v → In one v ⊎ In two v
  of_joined v e = of_or (one v) (two v) (sym (is v) ∙ e)

  pub in_left : (v : ℕ) → In one v → In both v
  in_left v e = is v ∙ or_left (one v) (two v) e

  pub in_right : (v : ℕ) → In two v → In both v
  in_right v e = is v ∙ or_right (one v) (two v) e

  pub joined_union : IsUnion one (In two) (In both)
  joined_union = record { split = of_joined; left = in_left; right = in_right }

-- ---- parts of a game

-- from each vertex of the player in the part some edge leads to the part
abbrev pub IsLiveFor : Game → Player → Mask → Type 0
IsLiveFor game player part =
    (v : ℕ) → part v ≡ true → owner_of game v ≡ player → (w : ℕ) × HasEdge game v w × (part w ≡ true)

-- outside of an attractor the opponent can stay outside
pub other_lives : (game : Game) (player : Player) (mask seeds set left : Mask) →
    IsAttractor game player mask seeds set → IsRest left mask set → IsLiveFor game (opponent player) left
other_lives game player mask seeds set left is less v h o = of (of_rest left mask set less v h)
  where
    of : In mask v × Out set v → (w : ℕ) × HasEdge game v w × In left w
    of (m, out) = kept (refused game player mask seeds set is v m out)
      where
        kept : Refuses game player mask set v → (w : ℕ) × HasEdge game v w × In left w
        kept (inl d) = absurd (not_opponent player (sym o ∙ d.0))
        kept (inr d) = (d.1, d.2, in_rest left mask set less d.1 d.3 d.4)

-- and the player has to, if it has an edge
pub own_lives : (game : Game) (player : Player) (mask seeds set left : Mask) → IsLiveFor game player mask →
    IsAttractor game player mask seeds set → IsRest left mask set → IsLiveFor game player left
own_lives game player mask seeds set left live is less v h o = of (of_rest left mask set less v h)
  where
    of : In mask v × Out set v → (w : ℕ) × HasEdge game v w × In left w
    of (m, out) = kept (refused game player mask seeds set is v m out) (live v m o)
      where
        kept : Refuses game player mask set v → (w : ℕ) × HasEdge game v w × In mask w →
            (w : ℕ) × HasEdge game v w × In left w
        kept (inl d) w = (w.0, w.1, in_rest left mask set less w.0 w.2 (d.1 w.0 w.1 w.2))
        kept (inr d) w = absurd (not_opponent player (sym d.0 ∙ o))

pub both_live : (game : Game) (player : Player) (mask : Mask) → IsLiveFor game player mask →
    IsLiveFor game (opponent player) mask → IsLive game mask
both_live game player mask own other v m = of (cases_player (owner_of game v) player)
  where
    of : (owner_of game v ≡ player) ⊎ (owner_of game v ≡ opponent player) → (w : ℕ) × HasEdge game v w × In mask w
    of (inl e) = own v m e
    of (inr e) = other v m e

-- an attractor leaves a part whose vertices have edges such a part
pub live_left : (game : Game) (player : Player) (mask seeds set left : Mask) → IsLive game mask →
    IsAttractor game player mask seeds set → IsRest left mask set → IsLive game left
live_left game player mask seeds set left live is less =
    both_live game player left (own_lives game player mask seeds set left (λ v m o. live v m) is less)
    (other_lives game player mask seeds set left is less)

-- where each vertex has an edge, nothing is drawn into no vertex
pub none_drawn : (game : Game) (player : Player) (mask seeds : Mask) → IsLive game mask →
    ((v : ℕ) → Out seeds v) → {v : ℕ} → Attracted game player mask seeds v → ⊥
none_drawn game player mask seeds live none (seed {v} e) = none v e
none_drawn game player mask seeds live none (moved {v} {w} m o edge r) = none_drawn game player mask seeds live none r
none_drawn game player mask seeds live none (forced {v} m o all) =
    of (live v m) (λ w edge k. none_drawn game player mask seeds live none (all w edge k))
  where
    of : (w : ℕ) × HasEdge game v w × In mask w → ((w : ℕ) → HasEdge game v w → In mask w → ⊥) → ⊥
    of w h = h w.0 w.1 w.2

-- where a player does not draw plays into a set, the opponent has no move into it
stays_left : (game : Game) (q : Player) (mask set left : Mask) → IsRest left mask set → (v : ℕ) →
    Refuses game q mask set v → owner_of game v ≡ opponent (opponent q) →
    (w : ℕ) → HasEdge game v w → In mask w → In left w
stays_left game q mask set left less v (inl d) o w edge m = in_rest left mask set less w m (d.1 w edge m)
stays_left game q mask set left less v (inr d) o w edge m = absurd (not_opponent (opponent q) (sym o ∙ d.0))

-- a set in its own part of a game is won in the same way as in the whole but for moves into what was taken away
pub beside : (game : Game) (q : Player) (mask set left W : Mask) (s : Strategy) → IsRest left mask set →
    IsDominion game q left Nowhere (In W) s → IsDominion game q mask (λ v w. In set w) (In W) s
beside game q mask set left W s less won =
    widen game q left mask Nowhere (λ v w. In set w) (In W) (In W) s s won
    (λ v h. (of_rest left mask set less v h).0) (λ v w e. absurd e) (λ v h. h) (λ v h. h) (λ v h. refl)
    (λ v h o w edge m. split left mask set less w m (is_in set w))

-- what the opponent wins in what an attractor leaves it wins in the whole
pub others_won : (game : Game) (q : Player) (mask seeds set left W : Mask) (s t : Strategy) →
    IsAttractor game q mask seeds set → IsRest left mask set →
    IsDominion game (opponent q) left Nowhere (In W) s → ((v : ℕ) → In W v → t v ≡ s v) →
    IsDominion game (opponent q) mask Nowhere (In W) t
others_won game q mask seeds set left W s t is less won same =
    widen game (opponent q) left mask Nowhere Nowhere (In W) (In W) s t won
    (λ v h. (of_rest left mask set less v h).0) (λ v w e. e) (λ v h. h) (λ v h. h) same
    (λ v h o w edge m. inr (out v (of_rest left mask set less v (won.inside v h)) o w edge m))
  where
    out : (v : ℕ) → In mask v × Out set v → owner_of game v ≡ opponent (opponent q) → (w : ℕ) → HasEdge game v w →
        In mask w → In left w
    out v h = stays_left game q mask set left less v (refused game q mask seeds set is v h.0 h.1)

-- A set that a player wins is drawn, and what is left is solved: so is the whole.
module _ (game : Game) (n : ℕ) (q : Player) (mask start set left : Mask) (wins more : Player → Mask) (s : Strategy)
    (below : (v : ℕ) → In mask v → v < n) (start_won : IsDominion game q mask Nowhere (In start) s)
    (is : IsAttractor game q mask start set) (less : IsRest left mask set)
    (mine : IsJoined (more q) set (wins q))
    (others : (v : ℕ) → more (opponent q) v ≡ wins (opponent q) v)
    (solution : IsSolution game left wins) where
  drawn : (u : Strategy) × IsDominion game q mask Nowhere (In set) u
  drawn = drawn_in game q mask n Nowhere start set s start_won is below

  moves : Strategy
  moves = mix set drawn.0 solution.moves

  outside : (p : Player) (v : ℕ) → In (wins p) v → In mask v × Out set v
  outside p v h = of_rest left mask set less v ((solution.won p).inside v h)

  own_won : IsDominion game q mask Nowhere (In (more q)) moves
  unfolding moves
  own_won = join game q mask set Nowhere (In (wins q)) (In (more q)) drawn.0 solution.moves drawn.1
      (beside game q mask set left (wins q) solution.moves less (solution.won q))
      (λ v h. (outside q v h).1) (joined_union (more q) set (wins q) mine)

  other_won : IsDominion game (opponent q) mask Nowhere (In (more (opponent q))) moves
  unfolding moves
  other_won = subst (λ (w : Mask). IsDominion game (opponent q) mask Nowhere (In w) moves) (λ i v. sym (others v) i)
      (others_won game q mask start set left (wins (opponent q)) solution.moves moves is less
      (solution.won (opponent q))
      (λ v h. mix_out set drawn.0 solution.moves v (outside (opponent q) v h).1))

  apart : (v : ℕ) → In (more q) v → In (more (opponent q)) v → ⊥
  apart v a b = of (of_joined (more q) set (wins q) mine v a) (sym (others v) ∙ b)
    where
      of : In set v ⊎ In (wins q) v → In (wins (opponent q)) v → ⊥
      of (inl e) h = (outside (opponent q) v h).1 e
      of (inr e) h = solution.apart q v e h

  each : (v : ℕ) → In mask v → (p : Player) × In (more p) v
  each v m = of (split left mask set less v m (is_in set v))
    where
      named : (p : Player) → In (wins p) v → (p ≡ q) ⊎ (p ≡ opponent q) → (p : Player) × In (more p) v
      named p h (inl e) = (q, in_right (more q) set (wins q) mine v (subst (λ y. In (wins y) v) e h))
      named p h (inr e) = (opponent q, others v ∙ subst (λ y. In (wins y) v) e h)

      of : In set v ⊎ In left v → (p : Player) × In (more p) v
      of (inl e) = (q, in_left (more q) set (wins q) mine v e)
      of (inr h) = found (solution.each v h)
        where
          found : (p : Player) × In (wins p) v → (p : Player) × In (more p) v
          found p = named p.0 p.1 (cases_player p.0 q)

  pub lifted : IsSolution game mask more
  lifted = record {
    moves = moves;
    won = λ p. of p (cases_player p q);
    each = each;
    apart = λ p v a b. not_both p v (cases_player p q) a b;
  }
    where
      of : (p : Player) → (p ≡ q) ⊎ (p ≡ opponent q) → IsDominion game p mask Nowhere (In (more p)) moves
      of p (inl e) = subst (λ y. IsDominion game y mask Nowhere (In (more y)) moves) (sym e) own_won
      of p (inr e) = subst (λ y. IsDominion game y mask Nowhere (In (more y)) moves) (sym e) other_won

      not_both : (p : Player) (v : ℕ) → (p ≡ q) ⊎ (p ≡ opponent q) → In (more p) v → In (more (opponent p)) v → ⊥
      not_both p v (inl e) a b =
          apart v (subst (λ y. In (more y) v) e a) (subst (λ y. In (more (opponent y)) v) e b)
      not_both p v (inr e) a b =
          apart v (subst (λ y. In (more y) v) (ap opponent e ∙ opponent_twice q) b) (subst (λ y. In (more y) v) e a)
