-- The steps of a round, in all products at once: from the sets that the calls return to the facts in each product.
use Rattle.std.proofs.Common.{◌≡◌, ℕ, List, Bool, false, not, ◌&&◌, ◌||◌, length, refl, sym, ◌∙◌, ap, subst}
use Rattle.vpg_sides.specs.declared.player.Player.{Player}
use Rattle.vpg_sides.specs.Players.{opponent}
use Rattle.vpg_guards.specs.Formula.{Formula}
use Rattle.vpg_game.specs.Guarded.{GuardedGame}
use Rattle.vpg_hope.proofs.Dual.{opponent_twice}
use Rattle.vpg_zielonka.specs.declared.subset.Subset.{Subset}
use Rattle.vpg_zielonka.specs.declared.universe.Universe.{Universe}
use Rattle.vpg_zielonka.specs.Universes.{IsInside, has, IsGrown}
use Rattle.vpg_zielonka.proofs.Growing.{grown_then}
use Rattle.vpg_zielonka.specs.Attractors.{Vertices, IsAttractor, IsRest, IsJoined, IsWithin}
use Rattle.vpg_zielonka.specs.Parts.{game_in, part_in, AreSets}
use Rattle.vpg_zielonka.specs.Rounds.{IsLive, IsLiveOrSeed, AreTops, AreStuck, IsBelowTops, IsGivenAway, IsWithoutStuck}
use Rattle.vpg_zielonka.specs.Winners.{AreWinners, wins_in}
use Rattle.vpg_zielonka.specs.declared.winners.Winners.{Winners}
use Rattle.vpg_zielonka.proofs.Filling.{part_grown}
use Rattle.vpg_zielonka.proofs.Looping.{wins_grown}

-- a part is the same in each product when the universe grows
pub same_part : (a b : Universe) → IsGrown a b → (n : ℕ) (sets : List Subset) → AreSets a n sets → (p : List Bool) →
    part_in b sets p ≡ part_in a sets p
same_part a b g n sets are p = λ x v. part_grown a b g n sets are p v x

pub within_grown : (a b : Universe) → IsGrown a b → (n : ℕ) (few many : List Subset) → AreSets a n few → AreSets a n many →
    ((p : List Bool) → IsWithin (part_in a few p) (part_in a many p)) →
    (p : List Bool) → IsWithin (part_in b few p) (part_in b many p)
within_grown a b g n few many fews manys within p v h = part_grown a b g n many manys p v
    ∙ within p v (sym (part_grown a b g n few fews p v) ∙ h)

pub live_grown : (a b : Universe) → IsGrown a b → (graph : GuardedGame Formula) (part : List Subset) →
    AreSets a (length graph) part → ((p : List Bool) → IsLive (game_in graph p) (part_in a part p)) →
    (p : List Bool) → IsLive (game_in graph p) (part_in b part p)
live_grown a b g graph part parts live p = subst (λ (m : Vertices). IsLive (game_in graph p) m)
    (sym (same_part a b g (length graph) part parts p)) (live p)

-- each vertex can move on, so the opponent can
pub live_or_seed : (universe : Universe) (graph : GuardedGame Formula) (player : Player) (part seeds : List Subset) →
    ((p : List Bool) → IsLive (game_in graph p) (part_in universe part p)) → (p : List Bool) →
    IsLiveOrSeed (game_in graph p) player (part_in universe part p) (part_in universe seeds p)
live_or_seed universe graph player part seeds live p = λ v m o f. live p v m

-- ---- below the tops

module _ (a b c : Universe) (g : IsGrown a b) (graph : GuardedGame Formula) (player : Player) (d : ℕ)
    (part seeds seeds_read drawn drawn_read left : List Subset) (seeds_are : seeds_read ≡ seeds)
    (drawn_are : drawn_read ≡ drawn) (parts : AreSets a (length graph) part)
    (tops : (p : List Bool) → AreTops (game_in graph p) (part_in a part p) d (part_in a seeds p))
    (attractor : (p : List Bool) → IsAttractor (game_in graph p) player (part_in a part p) (part_in a seeds_read p)
    (part_in b drawn p))
    (rest : (p : List Bool) → IsRest (part_in c left p) (part_in b part p) (part_in b drawn_read p)) where
  pub below_tops_are : (p : List Bool) → IsBelowTops (game_in graph p) player d (part_in a part p) (part_in c left p)
  below_tops_are p = record {
    seeds = part_in a seeds p;
    drawn = part_in b drawn p;
    tops = tops p;
    attractor = subst (λ (xs : List Subset). IsAttractor (game_in graph p) player (part_in a part p) (part_in a xs p)
        (part_in b drawn p)) seeds_are (attractor p);
    rest = λ v. rest p v ∙ ap (λ (xs : List Subset). part_in b part p v && not (part_in b xs p v)) drawn_are
        ∙ ap (λ (x : Bool). x && not (part_in b drawn p v)) (part_grown a b g (length graph) part parts p v);
  }

-- ---- a round given away

module _ (a b c d e f g h : Universe) (graph : GuardedGame Formula) (player q : Player) (q_is : q ≡ opponent player)
    (part others drawn gone on left gone_read drawn_given drawn_read on_read : List Subset) (gone_are : gone_read ≡ gone)
    (given_are : drawn_given ≡ drawn) (drawn_are : drawn_read ≡ drawn) (on_are : on_read ≡ on) (some : Subset)
    (w0 w1 w2 : Winners)
    (ab : IsGrown a b) (bc : IsGrown b c) (cd : IsGrown c d) (de : IsGrown d e) (ef : IsGrown e f) (fg : IsGrown f g)
    (gh : IsGrown g h) (parts : AreSets a (length graph) part) (other_sets : AreSets a (length graph) others)
    (drawns : AreSets c (length graph) drawn) (some_in : IsInside b some) (before : AreWinners a (length graph) w0)
    (after : AreWinners f (length graph) w2)
    (none : (p : List Bool) → has b some p ≡ false → (v : ℕ) → part_in a others p v ≡ false)
    (attractor : (p : List Bool) → IsAttractor (game_in graph p) q (part_in b part p) (part_in b others p) (part_in c drawn p))
    (gone_is : (p : List Bool) (v : ℕ) → part_in d gone p v ≡ (part_in c part p v && not (has c some p)))
    (own : (p : List Bool) → IsJoined (wins_in e w1 p player) (wins_in d w0 p player) (part_in d gone_read p))
    (same : (p : List Bool) (v : ℕ) → wins_in e w1 p (opponent player) v ≡ wins_in d w0 p (opponent player) v)
    (more : (p : List Bool) → IsJoined (wins_in f w2 p q) (wins_in e w1 p q) (part_in e drawn_given p))
    (kept : (p : List Bool) (v : ℕ) → wins_in f w2 p (opponent q) v ≡ wins_in e w1 p (opponent q) v)
    (on_is : (p : List Bool) (v : ℕ) → part_in g on p v ≡ (part_in f part p v && has f some p))
    (rest : (p : List Bool) → IsRest (part_in h left p) (part_in g on_read p) (part_in g drawn_read p)) where
  ac : IsGrown a c
  ac = grown_then a b c ab bc

  ad : IsGrown a d
  ad = grown_then a c d ac cd

  ce : IsGrown c e
  ce = grown_then c d e cd de

  cg : IsGrown c g
  cg = grown_then c f g (grown_then c e f ce ef) fg

  af : IsGrown a f
  af = grown_then a e f (grown_then a d e ad de) ef

  bf : IsGrown b f
  bf = grown_then b c f bc (grown_then c e f ce ef)

  fh : IsGrown f h
  fh = grown_then f g h fg gh

  two : (x y : Bool → Bool → Bool) → {s t u w : Bool} → x ≡ y → s ≡ u → t ≡ w → x s t ≡ y u w
  two x y {s} {t} {u} {w} k i j = ap (λ (o : Bool → Bool → Bool). o s t) k ∙ ap (λ (z : Bool). y z t) i ∙ ap (λ (z : Bool). y u z) j

  end_wins : (p : List Bool) (r : Player) (v : ℕ) → wins_in h w2 p r v ≡ wins_in f w2 p r v
  end_wins p r v = ap (λ (k : Player → Vertices). k r v) (wins_grown f h fh (length graph) w2 after p)

  start_wins : (p : List Bool) (r : Player) (v : ℕ) → wins_in d w0 p r v ≡ wins_in a w0 p r v
  start_wins p r v = ap (λ (k : Player → Vertices). k r v) (wins_grown a d ad (length graph) w0 before p)

  back : (p : List Bool) (v : ℕ) → wins_in f w2 p player v ≡ wins_in e w1 p player v
  back p v = subst (λ (r : Player). wins_in f w2 p r v ≡ wins_in e w1 p r v)
      (ap opponent q_is ∙ opponent_twice player) (kept p v)

  pub given_away : (p : List Bool) → IsGivenAway (game_in graph p) player (part_in a part p) (part_in a others p)
      (part_in h left p) (wins_in a w0 p) (wins_in h w2 p)
  given_away p = record {
    some = has b some p;
    drawn = part_in c drawn p;
    none = none p;
    attractor = subst (λ (m : Vertices). IsAttractor (game_in graph p) (opponent player) m (part_in a others p) (part_in c drawn p))
        (same_part a b ab (length graph) part parts p)
        (subst (λ (m : Vertices). IsAttractor (game_in graph p) (opponent player) (part_in b part p) m (part_in c drawn p))
        (same_part a b ab (length graph) others other_sets p)
        (subst (λ (r : Player). IsAttractor (game_in graph p) r (part_in b part p) (part_in b others p) (part_in c drawn p))
        q_is (attractor p)));
    others_more = λ v. end_wins p (opponent player) v
        ∙ subst (λ (r : Player). wins_in f w2 p r v ≡ (wins_in e w1 p r v || part_in e drawn_given p v)) q_is (more p v)
        ∙ ap (λ (xs : List Subset). wins_in e w1 p (opponent player) v || part_in e xs p v) given_are
        ∙ two (λ (x y : Bool). x || y) (λ (x y : Bool). x || y) refl
        (same p v ∙ start_wins p (opponent player) v) (part_grown c e ce (length graph) drawn drawns p v);
    own_more = λ v. end_wins p player v ∙ back p v ∙ own p v
        ∙ ap (λ (xs : List Subset). wins_in d w0 p player v || part_in d xs p v) gone_are
        ∙ two (λ (x y : Bool). x || y) (λ (x y : Bool). x || y) refl (start_wins p player v)
        (gone_is p v ∙ two (λ (x y : Bool). x && not y) (λ (x y : Bool). x && not y) refl
        (part_grown a c ac (length graph) part parts p v) (bc.same some some_in p));
    rest = λ v. rest p v ∙ ap (λ (xs : List Subset). part_in g xs p v && not (part_in g drawn_read p v)) on_are
        ∙ ap (λ (xs : List Subset). part_in g on p v && not (part_in g xs p v)) drawn_are
        ∙ two (λ (x y : Bool). x && not y) (λ (x y : Bool). x && not y) refl
        (on_is p v ∙ two (λ (x y : Bool). x && y) (λ (x y : Bool). x && y) refl
        (part_grown a f af (length graph) part parts p v) (bf.same some some_in p))
        (part_grown c g cg (length graph) drawn drawns p v);
  }

-- ---- vertices without a move

pub stuck_inside : (a b : Universe) → IsGrown a b → (graph : GuardedGame Formula) (player : Player) (part seeds : List Subset) →
    AreSets a (length graph) part →
    ((p : List Bool) → AreStuck (game_in graph p) player (part_in a part p) (part_in b seeds p)) →
    (p : List Bool) → IsWithin (part_in b seeds p) (part_in b part p)
stuck_inside a b g graph player part seeds parts stuck p v m =
    part_grown a b g (length graph) part parts p v ∙ (stuck p).inside v m

pub stuck_live : (a b : Universe) → IsGrown a b → (graph : GuardedGame Formula) (player q : Player) → q ≡ opponent player →
    (part seeds : List Subset) → AreSets a (length graph) part →
    ((p : List Bool) → AreStuck (game_in graph p) q (part_in a part p) (part_in b seeds p)) →
    (p : List Bool) → IsLiveOrSeed (game_in graph p) player (part_in b part p) (part_in b seeds p)
stuck_live a b g graph player q q_is part seeds parts stuck p =
    subst (λ (m : Vertices). IsLiveOrSeed (game_in graph p) player m (part_in b seeds p))
    (sym (same_part a b g (length graph) part parts p)) (λ v m o f. (stuck p).all v m (o ∙ sym q_is) f)

module _ (a b c d e : Universe) (graph : GuardedGame Formula) (player q : Player) (q_is : q ≡ opponent player)
    (part seeds drawn left seeds_read drawn_given drawn_read : List Subset) (seeds_are : seeds_read ≡ seeds)
    (given_are : drawn_given ≡ drawn) (drawn_are : drawn_read ≡ drawn) (w0 w1 : Winners) (ab : IsGrown a b)
    (bc : IsGrown b c) (cd : IsGrown c d) (de : IsGrown d e) (parts : AreSets a (length graph) part)
    (drawns : AreSets c (length graph) drawn) (before : AreWinners a (length graph) w0)
    (after : AreWinners d (length graph) w1)
    (stuck : (p : List Bool) → AreStuck (game_in graph p) q (part_in a part p) (part_in b seeds p))
    (attractor : (p : List Bool) → IsAttractor (game_in graph p) player (part_in b part p) (part_in b seeds_read p)
    (part_in c drawn p))
    (own : (p : List Bool) → IsJoined (wins_in d w1 p player) (wins_in c w0 p player) (part_in c drawn_given p))
    (others : (p : List Bool) (v : ℕ) → wins_in d w1 p (opponent player) v ≡ wins_in c w0 p (opponent player) v)
    (rest : (p : List Bool) → IsRest (part_in e left p) (part_in d part p) (part_in d drawn_read p)) where
  pub stuck_given : (p : List Bool) → IsWithoutStuck (game_in graph p) player (part_in a part p) (part_in e left p)
      (wins_in a w0 p) (wins_in e w1 p)
  stuck_given p = record {
    seeds = part_in b seeds p;
    drawn = part_in c drawn p;
    stuck = subst (λ (r : Player). AreStuck (game_in graph p) r (part_in a part p) (part_in b seeds p)) q_is (stuck p);
    attractor = subst (λ (m : Vertices). IsAttractor (game_in graph p) player m (part_in b seeds p) (part_in c drawn p))
        (same_part a b ab (length graph) part parts p)
        (subst (λ (xs : List Subset). IsAttractor (game_in graph p) player (part_in b part p) (part_in b xs p)
        (part_in c drawn p)) seeds_are (attractor p));
    own_more = λ v. end_wins player v ∙ own p v
        ∙ ap (λ (xs : List Subset). wins_in c w0 p player v || part_in c xs p v) given_are
        ∙ ap (λ (x : Bool). x || part_in c drawn p v) (start_wins player v);
    others_stay = λ v. end_wins (opponent player) v ∙ others p v ∙ start_wins (opponent player) v;
    rest = λ v. rest p v
        ∙ ap (λ (xs : List Subset). part_in d part p v && not (part_in d xs p v)) drawn_are
        ∙ ap (λ (x : Bool). x && not (part_in d drawn p v))
        (part_grown a d (grown_then a c d (grown_then a b c ab bc) cd) (length graph) part parts p v)
        ∙ ap (λ (x : Bool). part_in a part p v && not x) (part_grown c d cd (length graph) drawn drawns p v);
  }
    where
      end_wins : (r : Player) (v : ℕ) → wins_in e w1 p r v ≡ wins_in d w1 p r v
      end_wins r v = ap (λ (k : Player → Vertices). k r v) (wins_grown d e de (length graph) w1 after p)

      start_wins : (r : Player) (v : ℕ) → wins_in c w0 p r v ≡ wins_in a w0 p r v
      start_wins r v = ap (λ (k : Player → Vertices). k r v)
          (wins_grown a c (grown_then a b c ab bc) (length graph) w0 before p)
